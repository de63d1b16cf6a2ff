use Rattle.std.proofs.Common.{rules}
use Rattle.std.specs.Prelude.{IsTrue}
use Rattle.cts_def.specs.Protocols.{is_chain}
use Rattle.cts_chain.proofs.Planning.{site_chain}
use Rattle.cts_packet_tests.proofs.shelves.chain_over.Goals as goal

pub build-requires : goal.build-requires
build-requires g c =
    let chain : IsTrue (is_chain c.as_slice.result.now) = search rules in
    site_chain c.as_slice.result.now chain
