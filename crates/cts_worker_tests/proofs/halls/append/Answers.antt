use Rattle.std.proofs.Common.{false, sym, subst, arith, ap, length}
use Rattle.cts_def.specs.declared.ident.Ident.TheVariants.{Unknown}
use Rattle.cts_entry.specs.declared.entry.Entry.{Entry}
use Rattle.cts_entry.specs.declared.what.What.TheVariants.{Packet}
use Rattle.cts_table.specs.States.{CanAdd, Shown, with_room}
use Rattle.cts_table.proofs.Active.{connected_active}
use Rattle.cts_worker_tests.proofs.Owns.{maker_of}
use Rattle.cts_worker_tests.proofs.halls.append.Goals as goal

pub packet-requires : goal.packet-requires
packet-requires c =
    let h : Shown = c.args.hall.now in
    let e : Entry = record { by = c.args.by; time = record { seconds = c.args.seconds; micros = 0 }; what = Packet Unknown false c.args.bytes } in
    let none = ap length c.requires.none in
    let can : CanAdd (with_room h 1 0) e = record {
      allowed = record { active = connected_active h.basis h.entries c.args.by c.is_kept.ensures.kept c.requires.open; says = (c.requires.line, c.requires.open) };
      of_site = record { maker = maker_of h.basis.site c.args.by c.requires.line; said = tt };
      entry = omega arith;
      bytes = omega (arith, none);
    } in
    subst (λ (s : Shown). CanAdd s e) (sym c.in-Ok.ensures.ok) can
