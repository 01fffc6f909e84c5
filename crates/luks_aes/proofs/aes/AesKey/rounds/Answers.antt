use Rattle.std.proofs.Common.{arith, length}
use Rattle.luks_aes.proofs.ScheduleLemmas.{key_length, schedule_is, key_bytes}
use Rattle.luks_aes.proofs.aes.AesKey.rounds.Goals as goal

pub returns : goal.returns
returns c =
    let key = c.args.self.now in
    let is = schedule_is c.self.invariant c.self.view_is in
    let lengths = key_length (length key) is.key_length in
    let least = lengths.least in
    let most = lengths.most in
    let rounds = is.rounds in
    record {
      value = rounds;
      least = omega (arith, rounds);
      most = omega (arith, rounds);
      key_bytes = key_bytes c.self.invariant c.self.view_is;
    }
