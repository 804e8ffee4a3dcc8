-- open: each return of none contradicts a fact of an image (`no`), and at the end all facts hold (`whole`).
use Rattle.std.proofs.Common.{◌≡◌, arith, rules}
use Rattle.std.specs.Prelude.{Option, None}
use Rattle.std.proofs.lemmas.Grind.{common_steps}
use Rattle.list_image.specs.declared.Shape.{Shape}
use Rattle.list_image.specs.Image.{opened, strings, tree_words, erased_names}
use Rattle.list_image.proofs.Laws.{no, is_count, filled, whole}
use Rattle.list_image.proofs.open.Goals as goal

pub returns-then-n-lt12 : goal.returns-then-n-lt12
returns-then-n-lt12 c = no c.args.image.now (λ f. omega (arith, f.exact))

pub returns-in_err-strings : goal.returns-in_err-strings
unfolding strings
returns-in_err-strings c =
    let e : ◌≡◌ {A = Option Shape} None (opened c.args.image.now) = no c.args.image.now (λ f. omega (arith, f.strings_fit, c.in_err-strings.ensures)) in
    grind (arith, common_steps)

pub returns-in_err-words : goal.returns-in_err-words
unfolding tree_words
returns-in_err-words c =
    let e : ◌≡◌ {A = Option Shape} None (opened c.args.image.now) = no c.args.image.now (λ f. omega (arith, f.words_fit, c.in_err-words.ensures)) in
    grind (arith, common_steps)

pub returns-in_err-erased : goal.returns-in_err-erased
unfolding erased_names
returns-in_err-erased c =
    let e : ◌≡◌ {A = Option Shape} None (opened c.args.image.now) = no c.args.image.now (λ f. omega (arith, f.erased_fit, c.in_err-erased.ensures)) in
    grind (arith, common_steps)

pub returns-then-n-at : goal.returns-then-n-at
unfolding strings tree_words erased_names
returns-then-n-at c = no c.args.image.now (λ f. omega (arith, f.exact, c.in_ok-strings.ensures, c.in_ok-words.ensures, c.in_ok-erased.ensures))

pub returns-then-bytes-gt-MAX_BYTES : goal.returns-then-bytes-gt-MAX_BYTES
unfolding strings tree_words erased_names
returns-then-bytes-gt-MAX_BYTES c =
    let l = c.args.image.now in
    let s = c.in_ok-strings.ensures in
    let w = c.in_ok-words.ensures in
    let x = c.in_ok-erased.ensures in
    let b = is_count l _ _ _ _ s.0 w.0 x.0 c.last_end-bytes.ensures in
    no l (λ f. let z = filled l _ _ _ _ s.0 w.0 x.0 c.last_end-bytes.ensures f in grind (arith, common_steps))

pub returns : goal.returns
returns c =
    whole c.args.image.now _ _ _ _ c.in_ok-strings.ensures.0 c.in_ok-words.ensures.0 c.in_ok-erased.ensures.0 c.last_end-bytes.ensures c.zero_from.result
    c.in_ok-strings.ensures.1 c.in_ok-words.ensures.1 c.in_ok-erased.ensures.1 (omega arith) (omega arith) c.zero_from.ensures (search rules)
