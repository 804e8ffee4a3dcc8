-- What the answer of a builtin function's lookup means. These are definitions.
use Rattle.std.proofs.Math.Option.{Option, none, some}
use Rattle.base_builtins.specs.Builtins.{Builtin}
use Rattle.base_builtins.specs.declared.Arguments.{Arguments}
use Rattle.base_builtins.specs.declared.Takes.{Takes}
use Rattle.std.specs.Prelude.{Option as RustOption, None, Some}

-- the least and most arguments of a builtin
abbrev pub arguments_of : Option Builtin → RustOption Arguments
arguments_of none = None
arguments_of (some b) = Some (record { least = b.least; most = b.most })

-- for contracts inside: what an entry of the code's table tells
abbrev pub told : Takes → Builtin
told e = record { name = e.0.now; least = e.1; most = e.2 }
