-- A list of four words is those four.
use Rattle.std.proofs.Common.{rules, arith, ◌≡◌, length, List, [], ◌∷◌, get_or}
use Rattle.std.proofs.lemmas.Grind.{common_steps}
use Rattle.bcast_text.proofs.script.command.Command.from_words.Goals as goal

four : {X : Type 0} (xs : List X) (x y z w : X) → length xs ≡ 4 → x ≡ get_or xs 0 x → y ≡ get_or xs 1 y → z ≡ get_or xs 2 z → w ≡ get_or xs 3 w
    → xs ≡ x ∷ y ∷ z ∷ w ∷ []
four xs x y z w long a b c d = grind (arith, common_steps)

pub returns-in-len4 : goal.returns-in-len4
returns-in-len4 c = search (rules, four)
