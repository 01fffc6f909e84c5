use Rattle.std.proofs.Common.{◌∙◌}
use Rattle.luks_aes.proofs.ScheduleLemmas.{round_in_schedule, round_byte}
use Rattle.luks_aes.proofs.aes.AesKey.round_key.Goals as goal

pub round_key-requires : goal.round_key-requires
round_key-requires c = round_in_schedule c.self.invariant c.self.view_is _ c.requires

pub returns : goal.returns
returns c = λ r k low small.
    c.round_key.ensures r k low small
    ∙ round_byte c.self.invariant c.self.view_is c.args.n r k c.requires low small
