use Rattle.cts_play.proofs.Playing.{sound_by}
use Rattle.cts_play.proofs.site.play_site.Goals as goal

pub invariant_of-result : goal.invariant_of-result
invariant_of-result c =
    let a = c.in_ok-push.ensures.pushed in
    let b = c.new-played.ensures in
    let d = c.in_ok-interface.ensures in
    let e = c.in_ok-targets.ensures in
    let f = c.as_slice.ensures in
    let s = c.site.inside in
    sound_by c.args.layout
    (record { definitions = s.definitions; interfaces = s.interfaces; routers = s.routers; api_port = s.api_port; desks = s.desks; log_layout = s.log_layout; log_cycle = s.log_cycle })
    c.requires c.site.invariant c.push.new.self c.new.result (cc) c.new.ensures
