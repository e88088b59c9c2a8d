-- `lists::IdList::meets` meets its contract: each test reads off some of the facts that a stored list has, and together they
-- are enough.
use mathlib.Core.Path.{◌≡◌}
use lib.ListN.{length}
use Rattle.rules.specs.Collecting.{most_ids}
use Rattle.lists.proofs.StoredLaws.{tested_padding, tested_empty, tested_rules}
use borrow.Author.Rules.{rules}
use Rattle.lists.proofs.IdList.meets.Goals as goal

pub returns-then-not-is_padded : goal.returns-then-not-is_padded
returns-then-not-is_padded c = tested_padding _ _ c.is_padded.ensures c.if-not-is_padded.true

pub returns-then-self-eq0 : goal.returns-then-self-eq0
returns-then-self-eq0 c =
    let nl : length c.args.self.numbers ≡ most_ids = search rules in
    let kl : length c.args.self.kinds ≡ most_ids = search rules in
    tested_empty _ _ c.is_padded.ensures c.if-not-is_padded.false nl kl c.if-self-eq0.true

pub returns : goal.returns
returns c =
    let nl : length c.args.self.numbers ≡ most_ids = search rules in
    let kl : length c.args.self.kinds ≡ most_ids = search rules in
    rw c.meets_rules.ensures (tested_rules _ _ c.is_padded.ensures c.if-not-is_padded.false nl kl c.if-self-eq0.false)
