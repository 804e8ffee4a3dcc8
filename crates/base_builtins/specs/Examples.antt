-- Worked examples of builtin functions by name.
use Rattle.std.specs.Prelude.{◌≡◌, refl, false, []}
use Rattle.std.proofs.Math.Option.{some}
use Rattle.base_text.specs.Text.{ascii}
use Rattle.base_builtins.specs.Builtins.{takes, builtins, same, entry_of, builtin, is_builtin}

-- whole names, with their suffix
pub names :
    (builtin (ascii "MID$") ≡ some (takes "MID$" 2 3))
    × (builtin (ascii "TIMER") ≡ some (takes "TIMER" 0 1))
    × (is_builtin (ascii "MID") ≡ false)
    × (is_builtin (ascii "ABS%") ≡ false)
    × (is_builtin (ascii "AB") ≡ false)
    × (is_builtin [] ≡ false)
unfolding builtin is_builtin entry_of builtins takes ascii same
names = (refl, refl, refl, refl, refl, refl)
