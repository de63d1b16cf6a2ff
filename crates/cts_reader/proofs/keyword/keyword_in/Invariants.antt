use Rattle.std.proofs.Common.{◌≡◌, drop, map, ℕ, List}
use Rattle.cts_reader.specs.declared.keyword.Spelled.{Spelled}
use Rattle.cts_reader.specs.Words.{keyword_in}
use Rattle.cts_reader.proofs.keyword.keyword_in.Given as goal

abbrev row : {K : Type 0} → Spelled K → List ℕ × K
row s = (s.text.now, s.keyword)

abbrev pub invariant-loop-spelled : goal.invariant-loop-spelled
invariant-loop-spelled g l = keyword_in (map row (drop l.spelled-index l.list)) l.word ≡ keyword_in (map row l.list) l.word
