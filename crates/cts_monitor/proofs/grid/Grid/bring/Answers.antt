use Rattle.std.proofs.Common.{◌≡◌, ◌<◌, ◌≤◌, length, get_or, arith, ap, sym, subst, rules}
use Rattle.cts_monitor.specs.Grid.{GridData, GridTells}
use Rattle.cts_monitor.proofs.Keyed.{get_is, last_at}
use Rattle.cts_monitor.proofs.NoteSteps.{note_bytes, note_fits, note_foreign, row_within}
use Rattle.cts_monitor.proofs.WatcherSteps.{row_wide}
use Rattle.cts_monitor.proofs.grid.Grid.bring.Goals as goal

pub take-requires-clause-fit : goal.take-requires-clause-fit
take-requires-clause-fit g c =
    let site = c.args.site.now in
    let xs = (g.H.Stands.list c.args.history.now) in
    let k = c.args.self.now in
    let q = c.args.number in
    let last = last_at xs c.args.at c.requires.place in
    let brought = c.requires.brought last.0 last.2 in
    let seen : c.len.result ≡ length c.self.inside.rows.items = search rules in
    let rows : length c.self.inside.rows.items ≡ length k.rows = ap (λ (r : GridData). length r.rows) c.self.view_is in
    let within : q < length k.rows = omega (arith, c.if-number-len.true, seen, rows) in
    let packet = c.index-as_slice-number.result in
    let found : packet ≡ get_or site.definitions.telemetry q packet = search rules in
    let there = get_is site.definitions.telemetry q packet (row_within site k.rows q c.requires.tells.long within) found in
    note_fits site xs c.args.at last.0 c.requires.place last.1 k q c.args.bytes.now brought c.requires.tells packet within there c.requires.few

pub take-requires-clause-free : goal.take-requires-clause-free
take-requires-clause-free g c =
    let site = c.args.site.now in
    let xs = (g.H.Stands.list c.args.history.now) in
    let k = c.args.self.now in
    let q = c.args.number in
    let seen : c.len.result ≡ length c.self.inside.rows.items = search rules in
    let rows : length c.self.inside.rows.items ≡ length k.rows = ap (λ (r : GridData). length r.rows) c.self.view_is in
    let within : q < length k.rows = omega (arith, c.if-number-len.true, seen, rows) in
    let packet = c.index-as_slice-number.result in
    let found : packet ≡ get_or site.definitions.telemetry q packet = search rules in
    let there = get_is site.definitions.telemetry q packet (row_within site k.rows q c.requires.tells.long within) found in
    let wide = row_wide site k.rows q packet c.requires.tells.long within there in
    omega (arith, wide, c.requires.free)

pub returns-then-number-len-clause-tells : goal.returns-then-number-len-clause-tells
returns-then-number-len-clause-tells g c =
    let site = c.args.site.now in
    let xs = (g.H.Stands.list c.args.history.now) in
    let k = c.args.self.now in
    let q = c.args.number in
    let last = last_at xs c.args.at c.requires.place in
    let brought = c.requires.brought last.0 last.2 in
    let seen : c.len.result ≡ length c.self.inside.rows.items = search rules in
    let rows : length c.self.inside.rows.items ≡ length k.rows = ap (λ (r : GridData). length r.rows) c.self.view_is in
    let within : q < length k.rows = omega (arith, c.if-number-len.true, seen, rows) in
    let packet = c.index-as_slice-number.result in
    let found : packet ≡ get_or site.definitions.telemetry q packet = search rules in
    let there = get_is site.definitions.telemetry q packet (row_within site k.rows q c.requires.tells.long within) found in
    subst (λ (r : GridData). GridTells site xs r) (sym c.take.ensures) (note_bytes site xs c.args.at last.0 c.requires.place last.1 k q c.args.bytes.now brought c.requires.tells packet within there)

pub returns-then-number-len-clause-free : goal.returns-then-number-len-clause-free
returns-then-number-len-clause-free g c =
    let site = c.args.site.now in
    let xs = (g.H.Stands.list c.args.history.now) in
    let k = c.args.self.now in
    let q = c.args.number in
    let seen : c.len.result ≡ length c.self.inside.rows.items = search rules in
    let rows : length c.self.inside.rows.items ≡ length k.rows = ap (λ (r : GridData). length r.rows) c.self.view_is in
    let within : q < length k.rows = omega (arith, c.if-number-len.true, seen, rows) in
    let packet = c.index-as_slice-number.result in
    let found : packet ≡ get_or site.definitions.telemetry q packet = search rules in
    let there = get_is site.definitions.telemetry q packet (row_within site k.rows q c.requires.tells.long within) found in
    let wide = row_wide site k.rows q packet c.requires.tells.long within there in
    let left = ap (λ (r : GridData). r.free) c.take.ensures in
    omega (arith, wide, left, c.requires.free)

pub returns-else-number-len-clause-tells : goal.returns-else-number-len-clause-tells
returns-else-number-len-clause-tells g c =
    let site = c.args.site.now in
    let xs = (g.H.Stands.list c.args.history.now) in
    let k = c.args.self.now in
    let q = c.args.number in
    let last = last_at xs c.args.at c.requires.place in
    let brought = c.requires.brought last.0 last.2 in
    let seen : c.len.result ≡ length c.self.inside.rows.items = search rules in
    let rows : length c.self.inside.rows.items ≡ length k.rows = ap (λ (r : GridData). length r.rows) c.self.view_is in
    let over : length k.rows ≤ q = omega (arith, c.if-number-len.false, seen, rows) in
    note_foreign site xs c.args.at last.0 c.requires.place last.1 k q c.args.bytes.now brought c.requires.tells over
