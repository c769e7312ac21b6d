-- The name of the channel is that of what was opened.
use Rattle.bcast_threads.proofs.lists.lists_of.Given as goal

abbrev pub ghosts-lists_over-J-Channel : goal.ghosts-lists_over-J-Channel
ghosts-lists_over-J-Channel g a = record { opening = a.opened.opening; registry = a.opened.registry }

abbrev pub ghosts-lists_over-J-Named : goal.ghosts-lists_over-J-Named
ghosts-lists_over-J-Named g a = record { book = a.opened.book }
