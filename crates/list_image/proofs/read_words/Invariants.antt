-- read_words: after i turns the first i words are the image's.
use Rattle.std.proofs.Common.{◌≡◌, ◌++◌, length, drop}
use Rattle.list_image.specs.Image.{words_at}
use Rattle.list_image.proofs.read_words.Given as goal

abbrev pub invariant-loop-i : goal.invariant-loop-i
invariant-loop-i l = record {
  long : length l.words ≡ length l.initial.words;
  read : l.words ≡ words_at l.image l.from l.i ++ drop l.i l.initial.words;
}
