-- The bodies of commands are read, by computing the reader of JSON on each of them.
use Rattle.std.proofs.Common.{ℕ, refl, inl}
use Rattle.std.proofs.lemmas.Str.{IsUtf8-from_ascii}
use Rattle.serde_json.proofs.OnLiterals.{serde_json_on_literals}
use Rattle.cts_api.proofs.TextLemmas.{ascii}
use Rattle.cts_methods.specs.Asking.{in_text}
use Rattle.cts_core.specs.Sendings.{AsksFor}
use Rattle.cts_rehearsal.specs.Generated.{order}
use Rattle.cts_rehearsal_laws.specs.Orders.{OrdersAskFor, all_checks, order_text}
use Rattle.cts_rehearsal_laws.proofs.Cases.{at_most_11}

abbrev Asks : ℕ → Type 0
Asks v = AsksFor (order v) all_checks (in_text (order_text v))

asks_0 : Asks 0
unfolding serde_json_on_literals
asks_0 = record { method = _; params = _; id = _; calls_it = inl (_, (IsUtf8-from_ascii (order 0) (ascii (order 0) refl), refl), refl); sends_it = refl }

asks_1 : Asks 1
unfolding serde_json_on_literals
asks_1 = record { method = _; params = _; id = _; calls_it = inl (_, (IsUtf8-from_ascii (order 1) (ascii (order 1) refl), refl), refl); sends_it = refl }

asks_2 : Asks 2
unfolding serde_json_on_literals
asks_2 = record { method = _; params = _; id = _; calls_it = inl (_, (IsUtf8-from_ascii (order 2) (ascii (order 2) refl), refl), refl); sends_it = refl }

asks_3 : Asks 3
unfolding serde_json_on_literals
asks_3 = record { method = _; params = _; id = _; calls_it = inl (_, (IsUtf8-from_ascii (order 3) (ascii (order 3) refl), refl), refl); sends_it = refl }

asks_4 : Asks 4
unfolding serde_json_on_literals
asks_4 = record { method = _; params = _; id = _; calls_it = inl (_, (IsUtf8-from_ascii (order 4) (ascii (order 4) refl), refl), refl); sends_it = refl }

asks_5 : Asks 5
unfolding serde_json_on_literals
asks_5 = record { method = _; params = _; id = _; calls_it = inl (_, (IsUtf8-from_ascii (order 5) (ascii (order 5) refl), refl), refl); sends_it = refl }

asks_6 : Asks 6
unfolding serde_json_on_literals
asks_6 = record { method = _; params = _; id = _; calls_it = inl (_, (IsUtf8-from_ascii (order 6) (ascii (order 6) refl), refl), refl); sends_it = refl }

asks_7 : Asks 7
unfolding serde_json_on_literals
asks_7 = record { method = _; params = _; id = _; calls_it = inl (_, (IsUtf8-from_ascii (order 7) (ascii (order 7) refl), refl), refl); sends_it = refl }

asks_8 : Asks 8
unfolding serde_json_on_literals
asks_8 = record { method = _; params = _; id = _; calls_it = inl (_, (IsUtf8-from_ascii (order 8) (ascii (order 8) refl), refl), refl); sends_it = refl }

asks_9 : Asks 9
unfolding serde_json_on_literals
asks_9 = record { method = _; params = _; id = _; calls_it = inl (_, (IsUtf8-from_ascii (order 9) (ascii (order 9) refl), refl), refl); sends_it = refl }

asks_10 : Asks 10
unfolding serde_json_on_literals
asks_10 = record { method = _; params = _; id = _; calls_it = inl (_, (IsUtf8-from_ascii (order 10) (ascii (order 10) refl), refl), refl); sends_it = refl }

asks_11 : Asks 11
unfolding serde_json_on_literals
asks_11 = record { method = _; params = _; id = _; calls_it = inl (_, (IsUtf8-from_ascii (order 11) (ascii (order 11) refl), refl), refl); sends_it = refl }

pub orders_ask_for : OrdersAskFor
orders_ask_for = at_most_11 Asks asks_0 asks_1 asks_2 asks_3 asks_4 asks_5 asks_6 asks_7 asks_8 asks_9 asks_10 asks_11
