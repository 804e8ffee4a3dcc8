-- Whether a type may stand there: each answer is what the definition picks. Assumes nothing.
use mathlib.Core.Path.{sym, ◌∙◌}
use mathlib.Core.Bool.{true, false}
use Rattle.collect_type.proofs.Turns.{code_plain, code_itself, code_record}
use Rattle.collect_type.proofs.check_type.Goals as goal

pub returns-then-f-ne45 : goal.returns-then-f-ne45
returns-then-f-ne45 c = λ rows H. code_plain rows c.args.owner.name c.args.f.ty.head c.args.f.ty.arg c.if-f-ne45.true

pub returns-then-f-owner : goal.returns-then-f-owner
returns-then-f-owner c = λ rows H. code_itself rows c.args.owner.name c.args.f.ty.head c.args.f.ty.arg c.if-f-ne45.false c.if-f-owner.true

pub returns-then-has : goal.returns-then-has
returns-then-has c = λ rows H. code_record rows c.args.owner.name c.args.f.ty.head c.args.f.ty.arg c.if-f-ne45.false c.if-f-owner.false true (sym c.if-has.true ∙ c.has.ensures rows H)

pub returns : goal.returns
returns c = λ rows H. code_record rows c.args.owner.name c.args.f.ty.head c.args.f.ty.arg c.if-f-ne45.false c.if-f-owner.false false (sym c.if-has.false ∙ c.has.ensures rows H)
