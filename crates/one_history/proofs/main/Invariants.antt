-- The name of the channel is that of what was opened.
use Rattle.one_history.proofs.main.Given as goal

abbrev pub ghosts-fan_out-J-Channel : goal.ghosts-fan_out-J-Channel
ghosts-fan_out-J-Channel g a = record { opening = a.opened.opening; registry = a.opened.registry }

abbrev pub ghosts-fan_out-J-Named : goal.ghosts-fan_out-J-Named
ghosts-fan_out-J-Named g a = record { book = a.opened.book }
