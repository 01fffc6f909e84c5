use Rattle.luks_kdf.specs.Pairs.{words}
use Rattle.luks_kdf.proofs.LaneLemmas.{below_sixteen}
use Rattle.luks_kdf.proofs.sha512_chains.load_block.Goals as goal

pub returns : goal.returns
unfolding words
returns c = below_sixteen _
    c.load_pair.ensures.first c.load_pair.ensures.second c.load_pair-2.ensures.first c.load_pair-2.ensures.second
    c.load_pair-3.ensures.first c.load_pair-3.ensures.second c.load_pair-4.ensures.first c.load_pair-4.ensures.second
    c.load_pair-5.ensures.first c.load_pair-5.ensures.second c.load_pair-6.ensures.first c.load_pair-6.ensures.second
    c.load_pair-7.ensures.first c.load_pair-7.ensures.second c.load_pair-8.ensures.first c.load_pair-8.ensures.second
