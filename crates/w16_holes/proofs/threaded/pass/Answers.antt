use Rattle.w16_holes.proofs.Common.{◌≡◌, arith, sym, subst}
use Rattle.w16_holes.proofs.Links.{Passes, place_behind, pass_fits, pass_below, pass_link, pass_three, passed}
use Rattle.w16_holes.proofs.threaded.pass.Given as given
use Rattle.w16_holes.proofs.threaded.pass.Goals as goal

pub next_above-next-requires-clause-place : goal.next_above-next-requires-clause-place
next_above-next-requires-clause-place g c = place_behind c.requires.old

pub next_above-next-requires-clause-below : goal.next_above-next-requires-clause-below
next_above-next-requires-clause-below g c = pass_below c.requires

pub at-requires-clause-place : goal.at-requires-clause-place
at-requires-clause-place g c = place_behind c.requires.old

pub overflow_add-end-2 : goal.overflow_add-end-2
overflow_add-end-2 g c = let fits = pass_fits c.requires in let end = fits.0 in let top = fits.1 in let is = c.at.ensures in let small = c.requires.roomy.small in record { fits = omega arith }

pub link-requires : goal.link-requires
link-requires g c = rw c.below-below.ensures.value (pass_link c.requires)

pub set_words-requires : goal.set_words-requires
set_words-requires g c = let fits = pass_fits c.requires in let wide = fits.2 in let inside = fits.3 in let one = c.link.ensures.length in let two = c.slide.ensures.length in omega arith

all : (g : given.Over) (c : goal.After-pass g) → Passes c.requires c.set_words.new.space.bytes.items
all g c = let is : c.set_words.new.space.bytes.items ≡ pass_three c.requires = cc in subst (Passes c.requires) (sym is) (passed c.requires)

pub returns-clause-kept : goal.returns-clause-kept
returns-clause-kept g c = rw c.pass.ensures.holes (all g c).0

pub returns-clause-bytes : goal.returns-clause-bytes
returns-clause-bytes g c = rw c.pass.ensures.holes (all g c).1

pub returns-clause-contents : goal.returns-clause-contents
returns-clause-contents g c = (all g c).2
