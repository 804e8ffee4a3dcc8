-- The two diagnostics of a TYPE, and its fields. Assumes nothing.
use mathlib.Core.Path.{refl}
use native.Mathlib.Omega.{arith}
use Rattle.collect_type.proofs.Whole.{type_inside_lem, type_fields, type_name, type_collects}
use Rattle.collect_type.proofs.type_def.Goals as goal

pub bounds-words-at : goal.bounds-words-at
bounds-words-at c = omega (arith, type_inside_lem c.requires.0)

pub bounds-words-at-2 : goal.bounds-words-at-2
bounds-words-at-2 c = omega (arith, type_inside_lem c.requires.0)

pub bounds-words-at-3 : goal.bounds-words-at-3
bounds-words-at-3 c = omega (arith, type_inside_lem c.requires.0)

pub overflow_add-owner : goal.overflow_add-owner
overflow_add-owner c = omega (arith, type_inside_lem c.requires.0, c.well_formed)

pub invariant_of-owner : goal.invariant_of-owner
invariant_of-owner c = record { small = (type_name c.requires.0, omega arith) }

pub fields-requires : goal.fields-requires
fields-requires c = ((omega (arith, c.push_if-t1.ensures.kept, c.push_if-t2.ensures.kept, c.requires.1.0), c.push_if-t2.ensures.fit), type_fields c.requires.0)

pub returns : goal.returns
returns c = type_collects c.args.words.now c.args.at c.args.scope c.has-twice.result _ c.word-prev.result c.requires.1 c.has-twice.ensures c.word-prev.ensures refl c.push_if-t1.ensures c.push_if-t2.ensures c.fields.ensures
