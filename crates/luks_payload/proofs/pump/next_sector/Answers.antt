use Rattle.std.proofs.Common.{◌≡◌, ◌<◌, ◌∙◌, take, length, length-take-le, arith}
use Rattle.luks_io.proofs.ErrorLemmas.{given_error}
use Rattle.luks_format.proofs.SectorLemmas.{sector_blocks}
use Rattle.luks_payload.specs.PumpEffects.{max_sectors}
use Rattle.luks_payload.specs.Plain.{sector_len}
use Rattle.luks_payload.proofs.ForwardingLemmas.{short_reads, whole_reads}
use Rattle.luks_payload.proofs.StepLemmas.{aborted_reads, aborted_writes, may_abort, may_be_torn, sector_appended}
use Rattle.luks_payload.proofs.StepLemmas.{steps_at_limit, step_aborted, steps_torn, sector_consumed, torn_reads}
use Rattle.luks_payload.proofs.StepLemmas.{torn_writes, torn_writes_nothing, writes_no_sector}
use Rattle.luks_payload.proofs.pump.next_sector.Goals as goal

pub returns-then-count-max_sectors-clause-run : goal.returns-then-count-max_sectors-clause-run
returns-then-count-max_sectors-clause-run g c image few positioned =
    let full : c.args.count ≡ max_sectors c.args.segment.now = omega arith in
    steps_at_limit c.args.segment.now image c.args.count c.args.prefix.now _ positioned c.args.cipher.now
    (g.O.Sink.written c.args.sink.now) (g.O.Sink.written c.args.sink.now) full few

pub returns-in_err-got : goal.returns-in_err-got
returns-in_err-got g c =
    let below : c.args.count < max_sectors c.args.segment.now = omega arith in
    let most = (sector_blocks c.args.segment.now.sector_size).short in
    let sized : length (take c.bytes-size.result c.args.buffer.now) ≡ sector_len c.args.segment.now =
    length-take-le c.bytes-size.result c.args.buffer.now (omega arith) ∙ c.bytes-size.ensures in
    let aborted = c.in_err-got.ensures in
    let only = aborted.forwards.only in
    rw (given_error _ _ c.from_residual.ensures.1) (record {
      limit = λ full. absurd (omega arith);
      only = may_abort c.args.segment.now c.args.count _ only;
      run = λ image few positioned.
          step_aborted c.args.segment.now image c.args.count c.args.prefix.now _ positioned c.args.cipher.now _ _ _ _
          below ((rw (sized, c.unit_number.ensures) at aborted.forwards.known) _ positioned.consumption.left);
      writes_sectors = writes_no_sector c.args.segment.now c.args.count _ only _ _ aborted.forwards.unread;
      reads = aborted_reads c.args.segment.now c.args.count _ only _ _ aborted.reads;
      writes = aborted_writes c.args.segment.now c.args.count _ only _ _ aborted.writes;
    })

pub returns-then-got-size : goal.returns-then-got-size
returns-then-got-size g c =
    let below : c.args.count < max_sectors c.args.segment.now = omega arith in
    let most = (sector_blocks c.args.segment.now.sector_size).short in
    let sized : length (take c.bytes-size.result c.args.buffer.now) ≡ sector_len c.args.segment.now =
    length-take-le c.bytes-size.result c.args.buffer.now (omega arith) ∙ c.bytes-size.ensures in
    let torn : c.in_ok-got.got < sector_len c.args.segment.now = omega arith in
    let some = c.in_ok-got.ensures in
    let s = c.args.segment.now in
    let n = c.args.count in
    let got = c.in_ok-got.got in
    let is = c.ending.ensures in
    record {
      limit = λ full. absurd (omega arith);
      only = may_be_torn s n got _ below is torn;
      run = λ image few positioned.
          steps_torn s image n c.args.prefix.now _ positioned c.args.cipher.now _ _ _ _ got below
          (rw sized at some.forwards.consumed) torn is;
      writes_sectors = torn_writes_nothing s n got _ below is _ _ (some.forwards.torn (omega arith));
      reads = torn_reads s n got _ below is _ _ (short_reads _ _ _ _ (omega arith) some.reads);
      writes = torn_writes s n got _ below is _ _ some.writes;
    }

pub returns : goal.returns
returns g c =
    let below : c.args.count < max_sectors c.args.segment.now = omega arith in
    let most = (sector_blocks c.args.segment.now.sector_size).short in
    let sized : length (take c.bytes-size.result c.args.buffer.now) ≡ sector_len c.args.segment.now =
    length-take-le c.bytes-size.result c.args.buffer.now (omega arith) ∙ c.bytes-size.ensures in
    let some = c.in_ok-got.ensures in
    let got : c.in_ok-got.got ≡ sector_len c.args.segment.now = omega (arith, some.forwards.most) in
    let full : c.in_ok-got.got ≡ length (take c.bytes-size.result c.args.buffer.now) = omega arith in
    record {
      limit = λ full. absurd (omega arith);
      only = below;
      run = λ image few positioned. (
        sector_consumed c.args.segment.now image c.args.count c.args.prefix.now _ positioned _ below
            (rw got at (some.forwards.consumed _ positioned.consumption.left).1),
        sector_appended c.args.segment.now image c.args.count c.args.prefix.now _ positioned c.args.cipher.now _ _
            (rw (c.unit_number.ensures, got) at (some.forwards.written full)),
      );
      writes_sectors = rw (c.unit_number.ensures, sized) at (some.forwards.whole full);
      reads = whole_reads _ _ _ _ (omega arith) some.reads;
      writes = some.writes;
    }
