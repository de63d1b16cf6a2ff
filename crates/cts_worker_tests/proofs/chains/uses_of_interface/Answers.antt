use Rattle.std.proofs.Common.{rules}
use Rattle.std.specs.Prelude.{IsTrue}
use Rattle.cts_def.specs.Protocols.{is_chain}
use Rattle.cts_chain.proofs.Planning.{site_chain}
use Rattle.cts_worker_tests.proofs.chains.uses_of_interface.Goals as goal

pub returns-clause-can : goal.returns-clause-can
returns-clause-can c =
    let chain : IsTrue (is_chain c.as_slice.result.now) = search rules in
    site_chain c.as_slice.result.now chain
