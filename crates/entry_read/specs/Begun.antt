-- How every entry begins: its sizes, then the string table. Assumes nothing.
use Rattle.std.specs.Prelude.{ℕ, Bool, true, false, ◌≡◌, refl, List, Result, Ok, Err}
use Rattle.std.proofs.Common.{◌∙◌, arith}
use Rattle.base_words.specs.Told.{Told, stops, gives, unless}
use Rattle.base_words.specs.Refusals.{refused}
use Rattle.base_words.specs.declared.Refusal.{Refusal}
use Rattle.base_strings.specs.Table.{sound, Names}
use Rattle.base_strings.specs.declared.right.Sound.{Sound}
use Rattle.base_strings.specs.Open.{Answers, entry_of}
use Rattle.base_strings.specs.OpenLaws.{answers_inner}

-- within the sizes: the same table, which keeps its rule; so the marks of its names are those of the given one
pub record Opened (sized : Bool) (bytes ends : List ℕ) (strings : Sound) : Type 0 where
  pub within : sized ≡ true
  pub right : sound bytes ends ≡ true
  pub bytes_are : strings.bytes.now ≡ bytes
  pub ends_are : strings.ends.now ≡ ends
  pub names : {marks : List ℕ} → Names strings.bytes.now strings.ends.now marks → Names bytes ends marks

-- for entries: the table, or what stops an entry before its work
unfoldable pub Begun : Bool → List ℕ → List ℕ → Result Sound Refusal → Type 0
Begun sized bytes ends (Ok strings) = Opened sized bytes ends strings
Begun sized bytes ends (Err r) = Answers sized bytes ends (refused {A = Unit {0}} r) (gives tt)

-- where the checks before it stop an entry, its work does not show
stopped : {A : Type 0} (u : Told A) (at : ℕ) (s b : Bool) (n p : ℕ) → ◌≡◌ {A = Told (Unit {0})} (stops n p) (unless s 5 0 (unless b 1 at (gives tt))) → stops n p ≡ unless s 5 0 (unless b 1 at u)
unfolding unless
stopped u at true true n p e = let z : ◌≡◌ {A = ℕ} 0 1 = cc in absurd (omega arith)
stopped u at true false n p e = let z : n ≡ 1 = cc in let y : p ≡ at = cc in rw (z, y) refl
stopped u at false b n p e = let z : n ≡ 5 = cc in let y : p ≡ 0 = cc in rw (z, y) refl

module _ {sized : Bool} {bytes ends : List ℕ} {v : Result Sound Refusal} where
  -- the table is there
  pub begun_opened : {strings : Sound} → Begun sized bytes ends v → v ≡ Ok strings → Opened sized bytes ends strings
  unfolding Begun
  begun_opened {strings} b e = rw e at b

  -- the entry stops with the refusal
  pub begun_stops : {A : Type 0} {t u : Told A} {r : Refusal} → Begun sized bytes ends v → v ≡ Err r → t ≡ refused r → Answers sized bytes ends t u
  unfolding Begun entry_of refused
  begun_stops {u} b e q =
      let a : Answers sized bytes ends (refused {A = Unit {0}} _) (gives tt) = rw e at b in
      record { at = a.at; place = a.place; is = q ∙ stopped u a.at sized (sound bytes ends) _ _ a.is }

  -- else its work decides
  pub begun_gives : {A : Type 0} {t u : Told A} {strings : Sound} → Begun sized bytes ends v → v ≡ Ok strings → t ≡ u → Answers sized bytes ends t u
  begun_gives b e q = let o = begun_opened b e in answers_inner o.within o.right q
