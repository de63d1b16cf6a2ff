-- What a loop learns of each, all of them keep.
use Rattle.std.proofs.Common.{◌≡◌, ℕ, true, ◌+◌, ◌<◌, ◌≤◌, List, [], ◌∷◌, length, drop, get_or, refl, sym, ◌∙◌, subst, add-one, drop-cons}
use Rattle.std.specs.List.{AllByRecursion, list_all}
use Rattle.std.proofs.lemmas.Bool.{and_parts}
use Rattle.std.proofs.lemmas.List.{drop_all}
use Rattle.cts_def.specs.Packets.{PacketData, is_command}
use Rattle.cts_cmd_laws.specs.Sound.{AreCommands, IsPacket}

-- all keep it, where those that are left do
abbrev pub LeftKeep : {X : Type 0} → (X → Type 0) → List X → ℕ → Type 0
LeftKeep P xs n = AllByRecursion P (drop n xs) → AllByRecursion P xs

pub one_more : {X : Type 0} (P : X → Type 0) (xs : List X) (n : ℕ) (x : X) → n < length xs → x ≡ get_or xs n x → P x → LeftKeep P xs n → LeftKeep P xs (n + 1)
one_more P xs n x lt is keeps all rest =
    let parts : drop n xs ≡ x ∷ drop (n + 1) xs = drop-cons xs n x lt ∙ rw (add-one, ← is) refl in
    all (subst (AllByRecursion P) (sym parts) (keeps, rest))

pub none_left : {X : Type 0} (P : X → Type 0) (xs : List X) (n : ℕ) → length xs ≤ n → LeftKeep P xs n → AllByRecursion P xs
none_left P xs n past all = all (subst (AllByRecursion P) (sym (drop_all n xs past)) tt)

-- packets that are commands
pub are_commands : (cs : List PacketData) → AllByRecursion IsPacket cs → list_all is_command cs ≡ true → AreCommands cs
are_commands [] all test = tt
are_commands (c ∷ cs) all test =
    let parts = and_parts (is_command c) (list_all is_command cs) test in
    (record { packet = all.0; command = parts.0 }, are_commands cs all.1 parts.1)
