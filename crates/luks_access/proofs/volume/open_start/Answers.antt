use Rattle.std.proofs.Common.{◌∙◌, ◌≡◌, ◌<◌, Bool, arith, refl, true, take}
use Rattle.std.proofs.lemmas.Result.{IfErr-weaker, IfOk-weaker}
use Rattle.luks_format.specs.Area.{max_loaded_len}
use Rattle.luks_io.specs.Counts.{Reads, unread}
use Rattle.luks_io.specs.declared.counts.ReadCounts.{ReadCounts}
use Rattle.luks_access.proofs.OpeningLemmas.{opened_at_start, refused_at_start}
use Rattle.luks_access.proofs.volume.open_start.Goals as goal

-- before any byte is read, all bytes of the image's start remain in its source
pub returns-clause-opens : goal.returns-clause-opens
returns-clause-opens g c known is =
    IfOk-weaker c.open_from.result _ _ (opened_at_start c.args.options.now known c.args.pass.now)
    (c.open_from.ensures.answers (take max_loaded_len known) (c.new-source.ensures.bytes ∙ rw is refl)).opens

pub returns-clause-refuses : goal.returns-clause-refuses
returns-clause-refuses g c known is =
    IfErr-weaker c.open_from.result _ _ (refused_at_start c.args.options.now known c.args.pass.now)
    (c.open_from.ensures.answers (take max_loaded_len known) (c.new-source.ensures.bytes ∙ rw is refl)).refuses

-- a failed read was counted
counted_once : (failed ended : Bool) (before after : ReadCounts) → Reads failed ended before after → before ≡ unread
    → failed ≡ true → 0 < after.failures
counted_once failed ended before after reads new is = rw (reads.failures, new, is) (omega arith)

pub returns-clause-failed : goal.returns-clause-failed
returns-clause-failed g c = λ failed.
    c.open_from.new.source.shown
    (counted_once _ c.open_from.ensures.reads.0 _ _ c.open_from.ensures.reads.1 c.new-source.ensures.counts failed)
