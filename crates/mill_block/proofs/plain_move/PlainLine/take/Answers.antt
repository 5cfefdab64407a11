use Rattle.std.proofs.Common.{inl, inr}
use Rattle.mill_block.proofs.PlainLemmas.{goes-x, goes-y, goes-z, goes-motion, goes-feed, more-x, more-y, more-z, more-motion, more-feed, named-now, capital-of}
use Rattle.mill_block.proofs.plain_move.PlainLine.take.Goals as goal

pub returns-in-88-clause-goes : goal.returns-in-88-clause-goes
returns-in-88-clause-goes c taken positioned s says =
    goes-x c.args.unit c.args.line positioned c.args.word s c.args.self.now c.take_axis.new.axis c.in-88.is (c.take_axis.ensures.new taken) (c.take_axis.ensures.units taken) says

pub returns-in-88-clause-capital : goal.returns-in-88-clause-capital
returns-in-88-clause-capital c taken = capital-of c.args.word.letter (inl (inl c.in-88.is))

pub returns-in-88-clause-more : goal.returns-in-88-clause-more
returns-in-88-clause-more c taken =
    more-x c.args.self.now c.take_axis.new.axis (c.take_axis.ensures.new taken) (named-now c.args.unit c.args.line c.take_axis.new.axis c.args.word.num (c.take_axis.ensures.units taken))

pub returns-in-89-clause-goes : goal.returns-in-89-clause-goes
returns-in-89-clause-goes c taken positioned s says =
    goes-y c.args.unit c.args.line positioned c.args.word s c.args.self.now c.take_axis-in-89.new.axis c.in-89.is (c.take_axis-in-89.ensures.new taken) (c.take_axis-in-89.ensures.units taken) says

pub returns-in-89-clause-capital : goal.returns-in-89-clause-capital
returns-in-89-clause-capital c taken = capital-of c.args.word.letter (inl (inr c.in-89.is))

pub returns-in-89-clause-more : goal.returns-in-89-clause-more
returns-in-89-clause-more c taken =
    more-y c.args.self.now c.take_axis-in-89.new.axis (c.take_axis-in-89.ensures.new taken) (named-now c.args.unit c.args.line c.take_axis-in-89.new.axis c.args.word.num (c.take_axis-in-89.ensures.units taken))

pub returns-in-90-clause-goes : goal.returns-in-90-clause-goes
returns-in-90-clause-goes c taken positioned s says =
    goes-z c.args.unit c.args.line positioned c.args.word s c.args.self.now c.take_axis-in-90.new.axis c.in-90.is (c.take_axis-in-90.ensures.new taken) (c.take_axis-in-90.ensures.units taken) says

pub returns-in-90-clause-capital : goal.returns-in-90-clause-capital
returns-in-90-clause-capital c taken = capital-of c.args.word.letter (inr (inl c.in-90.is))

pub returns-in-90-clause-more : goal.returns-in-90-clause-more
returns-in-90-clause-more c taken =
    more-z c.args.self.now c.take_axis-in-90.new.axis (c.take_axis-in-90.ensures.new taken) (named-now c.args.unit c.args.line c.take_axis-in-90.new.axis c.args.word.num (c.take_axis-in-90.ensures.units taken))

pub returns-in-71-clause-goes : goal.returns-in-71-clause-goes
returns-in-71-clause-goes c taken positioned s says =
    goes-motion c.args.unit c.args.line positioned c.args.word s c.args.self.now c.take_motion.new.kind c.in-71.is (c.take_motion.ensures.new taken) (c.take_motion.ensures.kind taken) says

pub returns-in-71-clause-capital : goal.returns-in-71-clause-capital
returns-in-71-clause-capital c taken = capital-of c.args.word.letter (inr (inr (inl c.in-71.is)))

pub returns-in-71-clause-more : goal.returns-in-71-clause-more
returns-in-71-clause-more c taken =
    more-motion c.args.self.now c.args.word.num c.take_motion.new.kind (c.take_motion.ensures.new taken) (c.take_motion.ensures.kind taken)

pub returns-in-70-clause-goes : goal.returns-in-70-clause-goes
returns-in-70-clause-goes c taken positioned s says =
    goes-feed c.args.unit c.args.line positioned c.args.word s c.args.self.now c.take_feed.new.feed c.in-70.is (c.take_feed.ensures.new taken) (c.take_feed.ensures.had taken) (c.take_feed.ensures.over taken) says

pub returns-in-70-clause-capital : goal.returns-in-70-clause-capital
returns-in-70-clause-capital c taken = capital-of c.args.word.letter (inr (inr (inr c.in-70.is)))

pub returns-in-70-clause-more : goal.returns-in-70-clause-more
returns-in-70-clause-more c taken = more-feed c.args.self.now c.take_feed.new.feed (c.take_feed.ensures.new taken) (c.take_feed.ensures.had taken)
