-- The name of the channel is that of what was opened.
use Rattle.test_threads.proofs.history.run_row.Given as goal

abbrev pub ghosts-run_over-J-Channel : goal.ghosts-run_over-J-Channel
ghosts-run_over-J-Channel g a = record { opening = a.opened.opening; registry = a.opened.registry }

abbrev pub ghosts-run_over-J-Named : goal.ghosts-run_over-J-Named
ghosts-run_over-J-Named g a = record { book = a.opened.book }
