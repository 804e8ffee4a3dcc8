-- The listing of an image: what the program prints for a file of these bytes, and what the compiler's entry gives. These are definitions.
use Rattle.std.specs.Prelude.{ℕ, ◌*◌, List}
use Rattle.std.proofs.Math.Option.{Option, none, some}
use Rattle.base_words.specs.Told.{Told, stops, gives}
use Rattle.rows_table.specs.Rows.{width, note_width}
use Rattle.list_image.specs.Image.{Image, decode}
use Rattle.list_page.specs.Page.{page, refusal}
use Rattle.law_equivalence.specs.Analysis.{Analysis, analysis}

-- the text of what was told: only `E number` of a refusal, whatever its place
unfoldable pub text_of : (bytes ends : List ℕ) → Told Analysis → List ℕ
text_of bytes ends (stops n p) = refusal n
text_of bytes ends (gives a) = page bytes ends a.diagnostics a.rows a.resolved

-- a file that is no image, or one over a size, is `E 5`
unfoldable pub listed : (Image → Told Analysis) → Option Image → List ℕ
listed analyse none = refusal 5
listed analyse (some i) = text_of i.bytes i.ends (analyse i)

-- with 2,048 rows and 2,048 diagnostics lent; no place is printed, so that 0 stands for the one that is left open.
-- (`analysed` of collect_definition/specs/Collect.antt is collecting with the collision check.)
unfoldable pub analysed : Image → Told Analysis
analysed i = analysis (some (2048 * width)) (some (2048 * note_width)) 0 i.bytes i.ends i.erased i.words

-- the listing of a file of these bytes
unfoldable pub listing : List ℕ → List ℕ
listing l = listed analysed (decode l)
