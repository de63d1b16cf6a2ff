-- The logs of more entries.
use Rattle.std.proofs.Common.{List, ◌∙◌, ap}
use Rattle.std.specs.List.{filter, flat_map}
use Rattle.std.proofs.lemmas.Grind.{flat_map-append}
use Rattle.std.proofs.lemmas.List.Elements.{filter-append}
use Rattle.cts_connection.specs.Routings.{is_logged}
use Rattle.cts_entry.specs.declared.entry.Entry.{Entry}
use Rattle.cts_entry.specs.Histories.{commands_to, packets_from}
use Rattle.cts_framing.specs.Layouts.{has_flags}
use Rattle.cts_log_batch.specs.Laying.{CommandsGrow, PacketsGrow, names}
use Rattle.cts_log.specs.Logged.{laid_out}
use Rattle.cts_trace.specs.Streams.{lay_out}

pub packets_grow : PacketsGrow
packets_grow site xs ys =
    let f = lay_out (laid_out (has_flags site.log_layout)) (names site) in
    let test = packets_from (is_logged site) in
    ap (λ (l : List Entry). flat_map f l) (filter-append test xs ys) ∙ flat_map-append f (filter test xs) (filter test ys)

pub commands_grow : CommandsGrow
commands_grow site xs ys =
    let f = lay_out (laid_out (has_flags site.log_layout)) (names site) in
    let test = commands_to (is_logged site) in
    ap (λ (l : List Entry). flat_map f l) (filter-append test xs ys) ∙ flat_map-append f (filter test xs) (filter test ys)
