use Rattle.luks_kdf.proofs.sha256_chains.after_block.Goals as goal

pub returns-clause-twice : goal.returns-clause-twice
returns-clause-twice c = λ j in_lane.
    (c.compress.ensures j _ in_lane (c.first_state.ensures.twice j in_lane) (c.load_block.ensures.twice j in_lane)
    (c.load_block.ensures.block j in_lane)).0
