use Rattle.front.proofs.Feeds.{first_feed, no_feed}
use Rattle.front.proofs.line_buffer.feed_of.Goals as goal

pub returns-clause-some : goal.returns-clause-some
returns-clause-some c = first_feed c.args.bytes.now c.memchr.result c.memchr.ensures

pub returns-clause-none : goal.returns-clause-none
returns-clause-none c = no_feed c.args.bytes.now c.memchr.result c.memchr.ensures
