-- put_message: the code's pieces make the templates, by computation, and what a message's pieces stand for is what its template does.
use Rattle.std.proofs.Common.{refl, ap, ◌∙◌}
use mathlib.Core.List.{flat_map}
use Rattle.base_text.specs.Text.{ascii}
use Rattle.list_message.specs.Message.{templates, render}
use Rattle.list_message.specs.Table.{run, table}
use Rattle.list_message.specs.Pieces.{template, marks, shown}
use Rattle.list_message.proofs.Laws.{all_shown}
use Rattle.base_text.specs.Laws.{same, items_none, items_more, items_all}
use Rattle.list_message.proofs.put_message.Goals as goal

pub message-piece-items-requires : goal.message-piece-items-requires
unfolding template table run templates ascii marks flat_map
message-piece-items-requires c = (refl, refl)

pub loop-piece-init : goal.loop-piece-init
loop-piece-init c = items_none (shown c.args.strings.now.bytes.now c.args.strings.now.ends.now c.args.d) c.message-piece-items.result.now

pub loop-piece-preserved : goal.loop-piece-preserved
loop-piece-preserved c = items_more (shown c.args.strings.now.bytes.now c.args.strings.now.ends.now c.args.d) c.message-piece-items.result.now _ _ c.loop-piece-test.true c.loop-piece.invariant c.put_piece-next.ensures

pub returns : goal.returns
returns c =
    let bytes = c.args.strings.now.bytes.now in
    let ends = c.args.strings.now.ends.now in
    let d = c.args.d in
    let pieces = c.message-piece-items.result.now in
    same (all_shown bytes ends d pieces c.message-piece-items.ensures.1 ∙ ap (render bytes ends d) c.message-piece-items.ensures.0) (items_all (shown bytes ends d) pieces _ c.loop-piece-test.false c.loop-piece.invariant)
