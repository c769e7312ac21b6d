-- A port that outlives all borrows nothing.
use mathlib.Core.List.{not-mem-nil}
use Rattle.test_handles.proofs.many_tasks.run_all.Goals as goal

pub drop-branch-requires-lives-T-Destruct : goal.drop-branch-requires-lives-T-Destruct
drop-branch-requires-lives-T-Destruct g c κs within a mem = absurd (not-mem-nil (c.type_bounds.static-P a mem))

pub drop-branch-requires-lives-T-Destruct-2 : goal.drop-branch-requires-lives-T-Destruct-2
drop-branch-requires-lives-T-Destruct-2 g c κs within a mem = absurd (not-mem-nil (c.type_bounds.static-P a mem))

pub drop-requires-lives-T-Destruct : goal.drop-requires-lives-T-Destruct
drop-requires-lives-T-Destruct g c κs within a mem = absurd (not-mem-nil (c.type_bounds.static-P a mem))

pub drop-requires-lives-T-Destruct-2 : goal.drop-requires-lives-T-Destruct-2
drop-requires-lives-T-Destruct-2 g c κs within a mem = absurd (not-mem-nil (c.type_bounds.static-P a mem))
