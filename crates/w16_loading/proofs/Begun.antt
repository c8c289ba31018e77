-- The world in which nothing is loaded.
use Rattle.w16_loading.proofs.Common.{◌≡◌, ℕ, Option, Some, None, IfSome, sym, ap, ◌∙◌, nat_cmp, get-empty, owned_in, Module, Named, module_in, EmptyLaw, EmptyOfFilesLaw}
use Rattle.std.specs.FinMap as finmap
use Rattle.w16_model.proofs.Empty as handles

-- nothing is under any key
none : {X : Type 0} (q : ℕ) → finmap.get (finmap.empty {X = X} {R = nat_cmp}) q ≡ None
none q = get-empty _ q

if_none : {X : Type 0} (P : X → Type 0) (p : Option X) → p ≡ None → IfSome p P
if_none P None e = tt
if_none P (Some x) e = cc

not_some : {X : Type 0} (q : ℕ) (x : X) → finmap.get (finmap.empty {X = X} {R = nat_cmp}) q ≡ Some x → ⊥
not_some q x e = let h : ◌≡◌ {A = Option _} None (Some x) = sym (none q) ∙ e in cc

no_module : (q : ℕ) → module_in (finmap.get (finmap.empty {X = Named} {R = nat_cmp}) q) ≡ None
no_module q = ap module_in (none q)

pub empty_law : EmptyLaw
empty_law memory slots files failures few = record {
  handles = handles.empty_law _ _ few;
  numbers = λ q. if_none _ _ (none q);
  names = λ a b m n x y same. absurd (not_some a m x);
  modules = λ q. if_none _ _ (no_module q);
  loads = λ q. if_none _ _ (none q);
  one_segment = λ slot a i b j m n x y. let h : ◌≡◌ {A = Option _} None (Some m) = sym (no_module a) ∙ x.loaded in cc;
  one_object = λ s t handle place m n x y. let h : ◌≡◌ {A = Option _} None (Some m) = sym (no_module _) ∙ x.loaded in cc;
  no_resource = λ slot a i b j m n x y. let h : ◌≡◌ {A = Option _} None (Some m) = sym (no_module a) ∙ x.loaded in cc;
  owners = λ q. if_none _ _ (ap owned_in (none q));
}

-- and nothing there is of another file
pub empty_of_files_law : EmptyOfFilesLaw
empty_of_files_law format memory slots files failures = record {
  code = λ slot handle number m s coded. let h : ◌≡◌ {A = Option Module} None (Some m) = sym (no_module _) ∙ s.loaded in cc;
  modules = λ handle m e. let h : ◌≡◌ {A = Option Module} None (Some m) = sym (no_module _) ∙ e in cc;
}
