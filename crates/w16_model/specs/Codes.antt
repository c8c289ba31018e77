-- By what a proof tells handles apart, so that they can be the value of a model.
use Rattle.std.specs.Prelude.{◌≡◌, ℕ, zero, suc, Bool, List, Option, refl}
use Rattle.std.specs.Coded.{Coded, code_by, coded×, coded_ℕ, coded_bool, coded_list, coded_option}
use Rattle.std.specs.{Ordering.nat_cmp, FinMap.FinMap}
use Rattle.w16_model.specs.declared.Kind.TheVariants.{Fixed, Moveable, Discardable}
use Rattle.w16_model.specs.{declared.Kind.Kind, Heap.Heap, Heap.Object, declared.Attributes.Attributes, declared.Owned.Owned, Handles.Handles}
use Rattle.std.specs.FinMap as finmap

abbrev pub number_of_kind : Kind → ℕ
number_of_kind Fixed = 0
number_of_kind Moveable = 1
number_of_kind Discardable = 2

abbrev pub kind_of_number : ℕ → Kind
kind_of_number zero = Fixed
kind_of_number (suc zero) = Moveable
kind_of_number (suc (suc n)) = Discardable

pub kind_back : (k : Kind) → kind_of_number (number_of_kind k) ≡ k
kind_back Fixed = refl
kind_back Moveable = refl
kind_back Discardable = refl

abbrev pub kind_code : Coded Kind
kind_code = code_by ℕ coded_ℕ number_of_kind kind_of_number kind_back

abbrev pub object_code : Coded Object
object_code = code_by (Kind × (ℕ × Option (List ℕ))) (coded× kind_code (coded× coded_ℕ (coded_option (coded_list coded_ℕ)))) (λ o. (o.kind, (o.locks, o.bytes))) (λ p. record { kind = p.0; locks = p.1.0; bytes = p.1.1 }) (λ _. refl)

abbrev pub heap_code : Coded Heap
heap_code = code_by (ℕ × (ℕ × (ℕ × (FinMap nat_cmp Object × (FinMap nat_cmp ℕ × List ℕ)))))
    (coded× coded_ℕ (coded× coded_ℕ (coded× coded_ℕ (coded× (finmap.code coded_ℕ object_code) (coded× (finmap.code coded_ℕ coded_ℕ) (coded_list coded_ℕ))))))
    (λ h. (h.lo, (h.hi, (h.grain, (h.objects, (h.places, h.order)))))) (λ p. record { lo = p.0; hi = p.1.0; grain = p.1.1.0; objects = p.1.1.1.0; places = p.1.1.1.1.0; order = p.1.1.1.1.1 }) (λ _. refl)

abbrev pub owned_code : Coded Owned
owned_code = code_by (ℕ × Bool) (coded× coded_ℕ coded_bool) (λ o. (o.size, o.code)) (λ p. record { size = p.0; code = p.1 }) (λ _. refl)

abbrev pub attributes_code : Coded Attributes
attributes_code = code_by (Bool × (Option Owned × ℕ)) (coded× coded_bool (coded× (coded_option owned_code) coded_ℕ)) (λ a. (a.shared, (a.owned, a.slots))) (λ p. record { shared = p.0; owned = p.1.0; slots = p.1.1 }) (λ _. refl)

abbrev pub handles_code : Coded Handles
handles_code = code_by (ℕ × (Heap × (FinMap nat_cmp Attributes × ℕ))) (coded× coded_ℕ (coded× heap_code (coded× (finmap.code coded_ℕ attributes_code) coded_ℕ)))
    (λ w. (w.slots, (w.heap, (w.attributes, w.moved)))) (λ p. record { slots = p.0; heap = p.1.0; attributes = p.1.1.0; moved = p.1.1.1 }) (λ _. refl)
