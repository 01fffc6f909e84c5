use Rattle.std.proofs.Common.{◌≡◌, ◌∙◌, length, arith, sym}
use Rattle.luks_kdf.specs.Hash.{digest_len}
use Rattle.luks_kdf.proofs.BytesLemmas.{cut, cut_end, cut_step, none_replaced, piece_begins}
use Rattle.luks_kdf.proofs.Pbkdf2Lemmas.{digest_sizes}
use Rattle.luks_kdf.proofs.StripesLemmas.{diffused_is, diffused_part, hashed_piece, length-hashed_piece}
use Rattle.luks_kdf.proofs.stripes.diffuse.Goals as goal

pub pieces-init : goal.pieces-init
pieces-init c =
    let block = c.args.block.now in
    none_replaced (cut (hashed_piece c.args.hash block) c.size-size.result (length block)) c.size-size.result block

pub pieces-preserved : goal.pieces-preserved
pieces-preserved c =
    let h = c.args.hash in
    let before = c.args.block.now in
    let is_size : c.size-size.result ≡ digest_len h = c.size-size.ensures in
    let some = (digest_sizes h).min_len in
    cut_step (hashed_piece h before) c.size-size.result (length-hashed_piece h before c.size-size.result is_size) before
    c.pieces.block c.diffuse_piece.new.piece c.pieces.j c.min-end.result
    (piece_begins (length before) c.size-size.result c.div_ceil-count.result c.pieces.j (omega arith)
    c.div_ceil-count.ensures c.pieces-test.true) c.pieces.auto.block c.pieces.invariant c.min-end.ensures
    (λ old. diffused_part h before _ c.diffuse_piece.new.piece c.size-size.result c.pieces.j is_size old
    c.diffuse_piece.ensures)

pub returns : goal.returns
returns c =
    let h = c.args.hash in
    let before = c.args.block.now in
    let is_size : c.size-size.result ≡ digest_len h = c.size-size.ensures in
    let some = (digest_sizes h).min_len in
    cut_end (hashed_piece h before) c.size-size.result (length-hashed_piece h before c.size-size.result is_size) before
    c.pieces.block c.div_ceil-count.result c.pieces.j (omega arith) c.div_ceil-count.ensures (omega arith)
    c.pieces.invariant ∙ rw is_size (sym (diffused_is h before))
