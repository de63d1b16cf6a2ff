-- What calls lend and answer, as the definitions name it.
use Rattle.std.specs.Prelude.{option_map}
use Rattle.serde_json.specs.Data.{no_members}
use Rattle.serde_json.specs.View.{members_view}
use Rattle.cts_methods.specs.declared.reading.Asking as lent
use Rattle.cts_methods.specs.declared.reading.Asking.TheVariants as lends
use Rattle.cts_methods.specs.declared.reading.Order as order
use Rattle.cts_methods.specs.declared.reading.Order.TheVariants as orders
use Rattle.cts_methods.specs.declared.params.PacketWords.{PacketWords}
use Rattle.cts_methods.specs.declared.params.ItemWords.{ItemWords}
use Rattle.cts_methods.specs.declared.params.LimitsWords.{LimitsWords}
use Rattle.cts_methods.specs.Asking.{PacketName, ItemName, NewLimits, Order, in_text, in_parts, Asking, asks_value, asks_packet, asks_received}
use Rattle.cts_methods.specs.Asking.{asks_sent, sends, asks_limits, sets_limits, enables, asks_set, chooses_set, asks_out_of_limits, asks_events}
use Rattle.cts_methods.specs.Asking.{asks_interfaces, asks_interface, injects, stops}
use Rattle.cts_methods.specs.Kinds.{or_else}

abbrev pub packet_name : PacketWords → PacketName
packet_name p = record { target = p.target.now; packet = p.packet.now }

abbrev pub item_name : ItemWords → ItemName
item_name i = record { target = i.target.now; packet = i.packet.now; item = i.item.now }

abbrev pub limits_asked : LimitsWords → NewLimits
limits_asked w = record { limits = w.limits; set = option_map (λ t. t.now) w.set; persistence = w.persistence; enabled = w.enabled }

abbrev pub order_data : order.Order → Order
order_data (orders.Text text) = in_text text.now
order_data (orders.Parts names members) = in_parts (packet_name names) (or_else no_members (option_map (λ m. members_view m.now.entries) members))

abbrev pub asking_data : lent.Asking → Asking
asking_data (lends.Value kind names) = asks_value kind (item_name names)
asking_data (lends.Packet names kind) = asks_packet (packet_name names) kind
asking_data (lends.Received names) = asks_received (packet_name names)
asking_data (lends.Sent names) = asks_sent (packet_name names)
asking_data (lends.Command checks order) = sends checks (order_data order)
asking_data (lends.Limits names set) = asks_limits (item_name names) (option_map (λ t. t.now) set)
asking_data (lends.SetLimits names limits) = sets_limits (item_name names) (limits_asked limits)
asking_data (lends.Enable on names) = enables on (item_name names)
asking_data lends.Set = asks_set
asking_data (lends.ChooseSet name) = chooses_set name.now
asking_data lends.OutOfLimits = asks_out_of_limits
asking_data (lends.Events from) = asks_events from
asking_data lends.Interfaces = asks_interfaces
asking_data (lends.Interface name) = asks_interface name.now
asking_data (lends.Inject names members) = injects (packet_name names) (members_view members.now.entries)
asking_data lends.Stop = stops
