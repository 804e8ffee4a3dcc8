-- put_refusal: three texts, one after the other.
use Rattle.base_text.specs.Text.{ascii}
use Rattle.base_text.specs.Laws.{then}
use Rattle.list_page.specs.Page.{refusal}
use Rattle.list_page.proofs.put_refusal.Goals as goal

pub returns : goal.returns
unfolding refusal ascii
returns c = then c.put_bytes-next.ensures (then c.put_decimal-next.ensures c.put_byte.ensures)
