-- builtin: a name that fails the quick test is none, and the code's table is the definition's, by computation.
use mathlib.Core.Path.{sym, ap, ◌∙◌}
use Rattle.base_text.specs.Text.{ascii}
use Rattle.base_builtins.specs.Builtins.{builtins, takes, builtin}
use Rattle.base_builtins.specs.Answers.{arguments_of}
use Rattle.base_builtins.proofs.Names.{no_builtin}
use Rattle.base_builtins.proofs.builtin.Goals as goal

pub returns-then-not-may_be : goal.returns-then-not-may_be
returns-then-not-may_be c = sym (ap arguments_of (no_builtin _ (sym c.may_be.ensures ∙ c.if-not-may_be.true)))

pub returns : goal.returns
unfolding builtin builtins takes ascii
returns c = c.search.ensures
