-- A line that makes no channel is not line 1.
use Rattle.std.proofs.Common.{rules, ◌≡◌, None, inr, subst, sym}
use Rattle.bcast_play.specs.ScriptRun.{IsNoScriptLine}
use Rattle.bcast_play.specs.Shown.{session_of}
use Rattle.bcast_play.proofs.session.SessionRunLine.run_line.Goals as goal

pub returns-in_default-clause-refused : goal.returns-in_default-clause-refused
returns-in_default-clause-refused g c _ =
    let first : session_of c.args.self.now ≡ None = search rules in
    subst (λ old. IsNoScriptLine old c.args.line.now) (sym first) (inr (c.in_ok-line.line, search rules, search rules, search rules))
