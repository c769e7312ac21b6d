-- The first space ends the line's first word.
use Rattle.std.proofs.Common.{◌≡◌, ◌≢◌, [], None, codes, true, sym, ◌∙◌, arith}
use Rattle.bcast_text.specs.declared.script.line.Line.{Line}
use Rattle.bcast_text.specs.declared.script.line.Line.TheVariants.{SendAll}
use Rattle.bcast_text.specs.ScriptLine.{word_of, arguments_of, IsInForm}
use Rattle.bcast_text.proofs.Spaced.{lacks, at_none, Lacks-test}
use Rattle.bcast_text.proofs.script.line.read_line.Goals as goal

-- no word has a space
plain_word : (line : Line) → lacks 32 (word_of line) ≡ true
plain_word line = grind arith

-- a list has a number, so its line has arguments
never_alone : (line : Line) → IsInForm line → arguments_of line ≡ None → word_of line ≢ codes "sendall"
never_alone (SendAll []) form none e = absurd (omega (arith, form.0))
never_alone line form none e = absurd cc

pub returns-in-None-clause-none : goal.returns-in-None-clause-none
returns-in-None-clause-none c none line is same =
    let whole = at_none _ c.in-None.ensures.cases (word_of line) (arguments_of line) (Lacks-test 32 _ (plain_word line)) same in
    c.alone.ensures.none none (λ e. never_alone line is whole.0 (sym whole.1 ∙ e)) line whole.0 whole.1
