-- `mark_names`: the first i marks are those of the first i strings. Assumes nothing.
use Rattle.std.proofs.Common.{◌≡◌, Bool, true, false, refl, sym, ap, ◌∙◌, ◌++◌, ◌∷◌, [], arith, add-one, rules}
use lib.ListN.{length-set}
use lib.Seq.{take-suc-set, take_all}
use Rattle.base_strings.proofs.Laws.{start_zero, start_next, ends_in, sound_at, marks_none, marks_more, marks_all}
use Rattle.base_words.specs.Word.{pick}
use Rattle.std.specs.Int.{from_bool}
use Rattle.base_strings.proofs.mark_names.Goals as goal

byte_of : (b : Bool) → from_bool b ≡ pick b 1 0
byte_of true = refl
byte_of false = refl

pub loop-i-init : goal.loop-i-init
loop-i-init c = record {
  here = sym (start_zero _ 0 refl);
  long = c.requires;
  marked = sym (marks_none c.args.strings.now.bytes.now c.args.strings.now.ends.now);
}

pub slice_bounds-is_name-count : goal.slice_bounds-is_name-count
slice_bounds-is_name-count c =
    let h = ends_in c.args.strings.now.bytes.now c.args.strings.now.ends.now c.loop-i.i (sound_at c.args.strings.now.bytes.now c.args.strings.now.ends.now c.loop-i.i c.args.strings.now.right (omega arith)) in
    omega (arith, c.loop-i.invariant.here)

pub slice_bounds-is_name-start : goal.slice_bounds-is_name-start
slice_bounds-is_name-start c =
    let h = ends_in c.args.strings.now.bytes.now c.args.strings.now.ends.now c.loop-i.i (sound_at c.args.strings.now.bytes.now c.args.strings.now.ends.now c.loop-i.i c.args.strings.now.right (omega arith)) in
    search rules

pub slice_bounds-is_name-end : goal.slice_bounds-is_name-end
slice_bounds-is_name-end c =
    let h = ends_in c.args.strings.now.bytes.now c.args.strings.now.ends.now c.loop-i.i (sound_at c.args.strings.now.bytes.now c.args.strings.now.ends.now c.loop-i.i c.args.strings.now.right (omega arith)) in
    search rules

pub loop-i-preserved : goal.loop-i-preserved
loop-i-preserved c = record {
  here = start_next _ _;
  long = simp length-set c.loop-i.invariant.long;
  marked = (rw (add-one c.loop-i.i) (take-suc-set _ c.loop-i.i _ (omega arith)) ∙ ap (λ l. l ++ (c.from.result ∷ [])) c.loop-i.invariant.marked
      ∙ sym (marks_more c.args.strings.now.bytes.now c.args.strings.now.ends.now c.loop-i.i c.loop-i.invariant.here refl (c.from.ensures ∙ byte_of _ ∙ ap (λ t. pick t 1 0) c.is_name.ensures)));
}

pub returns : goal.returns
returns c = sym (take_all c.loop-i.i c.loop-i.names (omega arith)) ∙ c.loop-i.invariant.marked ∙ marks_all c.args.strings.now.bytes.now c.args.strings.now.ends.now c.loop-i.i (omega arith)
