-- `declare_all`: so many declarators, each declared. Assumes nothing.
use Rattle.collect_dim.proofs.Doing.{declare_start, declare_next, declare_end, ready_row, ready_name}
use Rattle.collect_as_clause.specs.Turns.{list_inside, some_row}
use mathlib.Core.Path.{refl, ◌∙◌}
use Rattle.collect_dim.proofs.declare_all.Goals as goal

pub bounds-words-at : goal.bounds-words-at
bounds-words-at c = list_inside c.requires.1.stands

pub loop-init : goal.loop-init
loop-init c = (declare_start c.args.strings.now.bytes.now c.args.strings.now.ends.now c.args.erased.now c.args.st.scope c.args.st.line c.args.st.redim c.args.st.preserve _ _ _ c.requires.0, c.requires.0, refl, refl)

pub declarator-v-requires : goal.declarator-v-requires
declarator-v-requires c = some_row (ready_row c.requires.1 c.loop.invariant.0 c.loop-test.true)

pub declared-c-requires : goal.declared-c-requires
declared-c-requires c = (c.loop.invariant.1, ready_name c.requires.1 c.loop.invariant.0 c.loop-test.true c.declarator-v.ensures)

pub loop-preserved : goal.loop-preserved
loop-preserved c = (declare_next c.args.strings.now.bytes.now c.args.strings.now.ends.now c.args.erased.now c.args.st.scope c.args.st.line c.args.st.redim c.args.st.preserve c.loop.invariant.0 c.loop-test.true c.declarator-v.ensures c.declared-c.ensures, c.declared-c.ensures.fit, c.declared-c.auto.b ∙ c.loop.invariant.2, c.declared-c.auto.d ∙ c.loop.invariant.3)

pub returns : goal.returns
returns c = declare_end c.args.strings.now.bytes.now c.args.strings.now.ends.now c.args.erased.now c.args.st.scope c.args.st.line c.args.st.redim c.args.st.preserve c.loop.invariant.0 c.loop-test.false
