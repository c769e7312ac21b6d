-- After a removal each name finds what it should.
use Rattle.std.specs.Prelude.{None}
use Rattle.std.proofs.lemmas.Map.Text.{btree_map_updates_text}
use Rattle.bcast_text.proofs.script.name.free_name.Goals as goal

pub returns : goal.returns
returns g c = λ other. btree_map_updates_text c.args.name.now c.args.names.now c.remove.new.self None c.remove.ensures.updates other
