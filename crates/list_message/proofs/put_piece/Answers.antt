-- put_piece: the choices by number.
use Rattle.list_message.specs.Message.{either}
use Rattle.base_text.specs.Text.{ascii}
use Rattle.list_message.proofs.put_piece.Goals as goal

pub returns-in-Plural : goal.returns-in-Plural
unfolding either ascii
returns-in-Plural c = rw c.in-Plural.is c.put_either.ensures

pub returns-in-Scope : goal.returns-in-Scope
unfolding either ascii
returns-in-Scope c = rw c.in-Scope.is c.put_either-in-Scope.ensures

pub returns-in-Procedure : goal.returns-in-Procedure
unfolding either ascii
returns-in-Procedure c = rw c.in-Procedure.is c.put_either-in-Procedure.ensures
