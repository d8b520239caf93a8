use Rattle.function_frames.proofs.frames.function_frames.Goals as goal

pub returns-clause-followed : goal.returns-clause-followed
returns-clause-followed c =
    c.followed_unless_returns_are_unproved.ensures.followed c.args.image.now c.args.function.now.graph.entry c.args.stack
    c.requires.graph.graph.sound.1 c.in_ok-facts.ensures.unproved
