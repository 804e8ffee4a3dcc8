-- `check`: all strings before i are right, and the first that is not is a place where the table breaks. Assumes nothing.
use Rattle.std.proofs.Common.{ℕ, ◌-◌, refl, sym, ap, ◌∙◌, arith}
use Rattle.std.proofs.lemmas.Grind.{common_steps}
use Rattle.base_strings.specs.Table.{start_of, right_at, all_below}
use Rattle.base_strings.proofs.Laws.{is_sound, is_broken, all_none, all_more, sound_none, sound_all, unsound_none, unsound_at, start_zero, start_next, starts_rise}
use Rattle.base_strings.proofs.check.Goals as goal

pub returns-then-is_empty-2 : goal.returns-then-is_empty-2
returns-then-is_empty-2 c = is_sound (sound_none c.args.strings.now.bytes.now c.args.strings.now.ends.now (grind (arith, common_steps)) (grind (arith, common_steps)))

pub returns-else-is_empty-2 : goal.returns-else-is_empty-2
returns-else-is_empty-2 c = is_broken (unsound_none c.args.strings.now.bytes.now c.args.strings.now.ends.now (grind (arith, common_steps)) (λ e. grind (arith, common_steps)))

pub loop-i-init : goal.loop-i-init
loop-i-init c = record { here = sym (start_zero c.args.strings.now.ends.now 0 refl); back = sym (start_zero c.args.strings.now.ends.now (0 - 1) refl); right = all_none _ }

pub right_at-requires : goal.right_at-requires
right_at-requires c = (
  record {
    inside = omega arith;
    back = c.loop-i.invariant.back;
    from = c.loop-i.invariant.here;
    to = refl;
    before = omega (arith, c.loop-i.invariant.here, c.loop-i.invariant.back, starts_rise c.args.strings.now.bytes.now c.args.strings.now.ends.now c.loop-i.i c.loop-i.invariant.right);
  },
  c.is_plain-plain.ensures,
)

pub returns-then-not-right_at : goal.returns-then-not-right_at
returns-then-not-right_at c = is_broken (unsound_at c.args.strings.now.bytes.now c.args.strings.now.ends.now c.loop-i.i (omega arith) (sym c.right_at.ensures ∙ c.if-not-right_at.true))

pub loop-i-preserved : goal.loop-i-preserved
loop-i-preserved c = record {
  here = start_next c.args.strings.now.ends.now c.loop-i.i;
  back = c.loop-i.invariant.here ∙ ap (start_of c.args.strings.now.ends.now) (omega arith);
  right = all_more _ _ c.loop-i.invariant.right (sym c.right_at.ensures ∙ c.if-not-right_at.false);
}

pub returns : goal.returns
returns c = is_sound (sound_all c.args.strings.now.bytes.now c.args.strings.now.ends.now (grind (arith, common_steps)) (sym (ap (λ (n : ℕ). all_below n (right_at c.args.strings.now.bytes.now c.args.strings.now.ends.now)) (omega arith)) ∙ c.loop-i.invariant.right))
