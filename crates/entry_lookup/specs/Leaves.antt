-- The leaves as entries over a lent string table and lent rows: number 5, 1, 6, 11, and then what `rows_lookup` gives. These are definitions.
use Rattle.std.specs.Prelude.{Bool, ◌&&◌, ℕ, ◌-◌, leb, length, get_or, Option as RustOption}
use mathlib.Core.List.{List}
use Rattle.std.proofs.Math.Option.{Option}
use Rattle.base_words.specs.Sizes.{max_strings, max_bytes}
use Rattle.base_words.specs.Told.{Told, gives, after, unless}
use Rattle.base_strings.specs.Table.{string_at, names_of}
use Rattle.rows_table.specs.Rows.{Row}
use Rattle.rows_lent.specs.Rules.{is_marked, scope_ok, type_ok}
use Rattle.rows_lent.specs.Lent.{lent_rows}
use Rattle.rows_lookup.specs.Lookup.{TypeRef, ArrayInfo, shares, is_static, type_words, typed_var, typed_var_in, lookup_array, declared_type}
use Rattle.base_builtins.specs.Builtins.{builtin}
use Rattle.base_builtins.specs.Answers.{arguments_of}
use Rattle.entry_lookup.specs.declared.Question.{Question}
use Rattle.entry_lookup.specs.declared.Question.TheVariants.{InProc, InScope, OfType}
use Rattle.base_builtins.specs.declared.Arguments.{Arguments}

-- 5: at most 1,024 strings and 16,384 bytes
unfoldable pub sized : (bytes ends : List ℕ) → Bool
sized bytes ends = leb (length ends) max_strings && leb (length bytes) max_bytes

-- 11: a procedure and a name, a scope and a name, a type that a field row could hold
unfoldable pub admits : (names : List ℕ) → Question → Bool
admits names (InProc proc name) = is_marked names proc && is_marked names name
admits names (InScope scope name) = scope_ok names scope && is_marked names name
admits names (OfType head arg) = type_ok names head arg

-- 6, 11, or the rows
unfoldable pub ruled : (names rows : List ℕ) → Question → Told (List Row)
unfolding admits
ruled names rows q = after (lent_rows names rows) (λ (rs : List Row). unless (admits names q) 11 0 (gives rs))

-- behind the checks of sizes and strings: what is asked of the rows
unfoldable pub asked : {A : Type 0} → (bytes ends rows : List ℕ) → Question → (List Row → A) → Told A
unfolding ruled
asked bytes ends rows q f = after (ruled (names_of bytes ends) rows q) (λ (rs : List Row). gives (f rs))

module _ (bytes ends rows : List ℕ) where
  -- `shares`
  unfoldable pub shares_at : (proc name : ℕ) (array : Bool) → Told Bool
  unfolding asked
  shares_at proc name array = asked bytes ends rows (InProc proc name) (λ (rs : List Row). shares rs proc name array)

  -- `is_static`
  unfoldable pub is_static_at : (proc name : ℕ) (array : Bool) → Told Bool
  unfolding asked
  is_static_at proc name array = asked bytes ends rows (InProc proc name) (λ (rs : List Row). is_static rs proc name array)

  -- `type_words`
  unfoldable pub type_words_at : (head arg : ℕ) → Told ℕ
  unfolding asked
  type_words_at head arg = asked bytes ends rows (OfType head arg) (λ (rs : List Row). type_words rs head arg)

  -- `typed_var`
  unfoldable pub typed_var_at : (scope name : ℕ) → Told (Option TypeRef)
  unfolding asked
  typed_var_at scope name = asked bytes ends rows (InScope scope name) (λ (rs : List Row). typed_var rs scope name)

  -- `typed_var_in`
  unfoldable pub typed_var_in_at : (scope name : ℕ) → Told (Option TypeRef)
  unfolding asked
  typed_var_in_at scope name = asked bytes ends rows (InScope scope name) (λ (rs : List Row). typed_var_in rs scope name)

  -- `lookup_array`
  unfoldable pub lookup_array_at : (scope name : ℕ) → Told (Option ArrayInfo)
  unfolding asked
  lookup_array_at scope name = asked bytes ends rows (InScope scope name) (λ (rs : List Row). lookup_array rs scope name)

-- `name.chars().last()`
unfoldable pub last_byte : List ℕ → ℕ
last_byte s = get_or s (length s - 1) 0

-- `declared_type`, with the last byte of the name
unfoldable pub declared_type_at : (bytes ends rows : List ℕ) (scope name : ℕ) → Told (Option ℕ)
unfolding asked last_byte
declared_type_at bytes ends rows scope name = asked bytes ends rows (InScope scope name) (λ (rs : List Row). declared_type rs (last_byte (string_at bytes ends name)) scope name)

-- `builtin` takes no rows
unfoldable pub builtin_at : (bytes ends : List ℕ) (name : ℕ) → Told (RustOption Arguments)
builtin_at bytes ends name = unless (is_marked (names_of bytes ends) name) 11 0 (gives (arguments_of (builtin (string_at bytes ends name))))
