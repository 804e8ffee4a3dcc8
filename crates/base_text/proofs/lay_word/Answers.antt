-- lay_word: a blank and four pairs are one text written (`word_laid`); each pair is of one of the word's bytes.
use Rattle.std.proofs.Common.{ℕ, ◌≡◌, ◌∷◌, ◌+◌, ◌/◌, ◌^◌, ◌<◌, get_or, set, ap, ◌∙◌, refl, arith}
use Rattle.std.proofs.lemmas.List.Edits.{sets}
use Rattle.std.specs.Int.{to_be_bytes, w32}
use Rattle.base_text.specs.Text.{hex8, pair}
use Rattle.base_text.specs.Laws.{fits, word_laid}
use Rattle.base_text.proofs.lay_word.Goals as goal

top : (w : ℕ) → w < 2 ^ 32 → get_or (to_be_bytes w32 w) 0 0 ≡ w / 0x1000000
top w h = omega arith

pub returns : goal.returns
unfolding hex8
returns c =
    let w = c.args.w in
    let bytes = c.to_be_bytes.ensures in
    fits (32 ∷ hex8 w) (word_laid c.args.out.now c.args.at w c.ranges.w.fits
    (c.lay_pair.ensures ∙ ap (λ (b : ℕ). sets (set c.args.out.now c.args.at 32) (c.args.at + 1) (pair b)) (ap (λ l. get_or l 0 0) bytes ∙ top w c.ranges.w.fits))
    (c.lay_pair-2.ensures ∙ ap (λ (b : ℕ). sets c.lay_pair.new.out (c.args.at + 3) (pair b)) (ap (λ l. get_or l 1 0) bytes))
    (c.lay_pair-3.ensures ∙ ap (λ (b : ℕ). sets c.lay_pair-2.new.out (c.args.at + 5) (pair b)) (ap (λ l. get_or l 2 0) bytes))
    (c.lay_pair-4.ensures ∙ ap (λ (b : ℕ). sets c.lay_pair-3.new.out (c.args.at + 7) (pair b)) (ap (λ l. get_or l 3 0) bytes ∙ omega arith))) refl
