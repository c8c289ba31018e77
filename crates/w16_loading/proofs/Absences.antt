-- Maps and worlds without what goes.
use Rattle.w16_loading.proofs
use proofs.Common as C
use proofs.Common.{◌≡◌, ℕ, Bool, false, cond, not, None, ap, ◌∙◌, nat_cmp, FinMap}
use proofs.Undone.{retained, kept_all}
use Rattle.std.specs.FinMap as finmap

-- two maps with the same values are one
pub same_values : {X : Type 0} (m n : FinMap nat_cmp X) → ((q : ℕ) → finmap.get m q ≡ finmap.get n q) → m ≡ n
same_values m n same = C.same_map C.nat_cmp_total C.nat_cmp-IsAntisymmetric m n same

-- where nothing goes all stay
pub all_retained : {X : Type 0} (m : FinMap nat_cmp X) (gone : ℕ → Bool) → ((q : ℕ) → gone q ≡ false) → finmap.retain_keys m (λ q. not (gone q)) ≡ m
all_retained m gone out = same_values (finmap.retain_keys m (λ q. not _)) m (λ q. retained m _ q ∙ ap (λ b. cond (not b) (finmap.get m q) None) (out q))

pub none_gone : (gone : ℕ → Bool) (world : C.LoadingWorld) → ((q : ℕ) → gone q ≡ false) → C.without_objects gone world ≡ world
none_gone gone world out = λ i. record world {
  handles = record world.handles {
    heap = record world.handles.heap {
      objects = all_retained world.handles.heap.objects _ out i;
      places = all_retained world.handles.heap.places _ out i;
      order = kept_all _ world.handles.heap.order (λ q m. out q) i;
    };
    attributes = all_retained world.handles.attributes _ out i;
  };
}
