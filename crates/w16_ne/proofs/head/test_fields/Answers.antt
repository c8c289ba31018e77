use Rattle.w16_ne.proofs.Common.{rules, fields_of}
use Rattle.w16_ne.proofs.head.test_fields.Goals as goal

pub returns-then-word-ne0-clause-exact : goal.returns-then-word-ne0-clause-exact
unfolding fields_of
returns-then-word-ne0-clause-exact c = search rules

pub returns-then-shift-gt15-clause-exact : goal.returns-then-shift-gt15-clause-exact
unfolding fields_of
returns-then-shift-gt15-clause-exact c = search rules

pub returns-clause-exact : goal.returns-clause-exact
unfolding fields_of
returns-clause-exact c = search rules

pub returns-clause-few : goal.returns-clause-few
unfolding fields_of
returns-clause-few c = search rules

pub returns-then-target-ne2-clause-exact : goal.returns-then-target-ne2-clause-exact
unfolding fields_of
returns-then-target-ne2-clause-exact c = search rules
