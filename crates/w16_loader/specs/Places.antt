-- What stands at places whose entries lie in a slab.
use Rattle.std.specs.Prelude.{◌≡◌, ℕ, ◌≤◌, List, map, length, count_by, is_some, Option, Some, None, slice_index_or}
use Rattle.slab.specs.Slab.{Slab, get, ContainsKey, slab_len}

module _ {T : Type 0} where
  -- what stands under a key
  abbrev pub under : Slab T → Option ℕ → Option T
  under slab None = None
  under slab (Some key) = get slab key

  abbrev pub placed : Slab T → List (Option ℕ) → List (Option T)
  placed slab keys = map (under slab) keys

  -- each place that is taken has a key of its own, nothing else lies in the slab, and there is room for an entry at each place
  pub record IsKeyed (slab : Slab T) (keys : List (Option ℕ)) : Type 0 where
    pub there : (place key : ℕ) → slice_index_or keys place None ≡ Some key → ContainsKey slab key
    pub apart : (place other key : ℕ) → slice_index_or keys place None ≡ Some key → slice_index_or keys other None ≡ Some key → place ≡ other
    pub many : slab_len slab ≡ count_by is_some keys
    pub room : length keys ≤ slab.capacity
