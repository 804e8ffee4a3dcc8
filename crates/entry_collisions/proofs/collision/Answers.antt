-- One array: a procedure of its name is found, or the name is asked of the builtins. Assumes nothing.
use Rattle.entry_collisions.proofs.Laws.{collides_proc, collides_none}
use Rattle.entry_collisions.proofs.collision.Goals as goal

pub is_builtin-builtin-requires : goal.is_builtin-builtin-requires
is_builtin-builtin-requires c = c.requires.0.named

pub returns-in-Some : goal.returns-in-Some
returns-in-Some c = collides_proc c.find_entry.ensures.found _ c.in-Some.is c.push.ensures

pub returns-in-None : goal.returns-in-None
returns-in-None c = collides_none c.find_entry.ensures.found c.in-None.is c.is_builtin-builtin.ensures c.push_if.ensures
