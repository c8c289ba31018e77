-- What keeps code as its files say it.
use Rattle.w16_loading.proofs
use proofs.Common as C
use proofs.Common.{◌≡◌, ℕ, ◌-◌, inl, inr, ◌⊎◌, true, List, [], Option, Some, None, IfSome, IsSomeAnd, Ok, Err, refl, sym, ap, ◌∙◌, subst, Heap, IsHeap, bytes_at, Format, Far, LoadingWorld, Module, IsSegmentOf, module_at, Fills, Filling, Answers, read_of, segment_bytes, is_code, IsItsFiles}
use proofs.Fillings.{any_do, fetch_outcome, filled_object, filled_other}
use proofs.KeptBytes.{KeepsBytes, kept_bytes, same_bytes}

-- a module has the source of another: its file, the values that were bound for it, and its slots
pub record SameSource (m before : Module) : Type 0 where
  pub file : m.file ≡ before.file
  pub values : m.values ≡ before.values
  pub slots : m.slots ≡ before.slots
  pub tables : m.tables ≡ before.tables

-- of each segment that is code: its bytes are those that it had, or those of its file, or it has none
pub record KeepsCode (format : Format) (old new : LoadingWorld) : Type 0 where
  pub files : new.files ≡ old.files
  pub modules : (handle : ℕ) (m : Module) → module_at new.modules handle ≡ Some m → (before : Module) × (module_at old.modules handle ≡ Some before) × SameSource m before
  pub coded : (slot : ℕ) → is_code new slot ≡ true → is_code old slot ≡ true
  pub bytes : (slot handle number : ℕ) (m : Module) → IsSegmentOf old slot handle number m → is_code old slot ≡ true
      → IfSome (bytes_at new.handles.heap slot) (λ b. (bytes_at old.handles.heap slot ≡ Some b) ⊎ (segment_bytes format old m number ≡ Some b))

-- the bytes of a segment, by the files, the name of its module's file and the values of its module
abbrev pub read_in : Format → List (List ℕ × List ℕ) → List ℕ → Option C.ModuleFile
read_in format files file = elim (C.file_of files file) [
  | None ↦ None
  | Some bytes ↦ elim (format.says bytes) [ Ok read ↦ Some read | Err _ ↦ None ]
]

abbrev pub image_of : Format → List (List ℕ × List ℕ) → List ℕ → List (List Far) → ℕ → Option (List ℕ)
image_of format files file values number = elim (read_in format files file) [
  | None ↦ None
  | Some read ↦ C.option_map (λ (s : C.SegmentData). s.image (C.slice_index_or values (number - 1) [])) (C.numbered read.segments number)
]

bytes_kept : (format : Format) (old new : LoadingWorld) → KeepsCode format old new → C.CodeIsItsFiles format old → C.CodeIsItsFiles format new
bytes_kept format old new keeps code slot handle number m segment coded = turn (bytes_at new.handles.heap slot) (keeps.bytes slot handle number was.0 before (keeps.coded slot coded))
  where
    was : (before : Module) × (module_at old.modules handle ≡ Some before) × SameSource m before
    was = keeps.modules handle m segment.loaded

    before : IsSegmentOf old slot handle number was.0
    before = record { loaded = was.1; has = (segment.has.0, ap (λ s. C.slice_get s (number - 1)) (sym was.2.slots) ∙ segment.has.1) }

    same : segment_bytes format new m number ≡ segment_bytes format old was.0 number
    same = λ i. image_of format (keeps.files i) (was.2.file i) (was.2.values i) number

    turn : (p : Option (List ℕ)) → IfSome p (λ b. (bytes_at old.handles.heap slot ≡ Some b) ⊎ (segment_bytes format old was.0 number ≡ Some b)) → IfSome p (λ b. segment_bytes format new m number ≡ Some b)
    turn None h = tt
    turn (Some b) (inl e) = same ∙ subst (λ p. IfSome p (λ b. segment_bytes format old was.0 number ≡ Some b)) e (code slot handle number was.0 before (keeps.coded slot coded))
    turn (Some b) (inr e) = same ∙ e

modules_kept : (format : Format) (old new : LoadingWorld) → KeepsCode format old new → C.ModulesAreItsFiles format old → C.ModulesAreItsFiles format new
modules_kept format old new keeps modules handle m loaded =
    let was = keeps.modules handle m loaded in
    turn was.0 was.2 _ (λ i. read_in format (keeps.files i) (was.2.file i)) (modules handle was.0 was.1)
  where
    turn : (before : Module) → SameSource m before → (p : Option C.ModuleFile) → read_of format new m ≡ p → IsSomeAnd p (IsItsFiles before) → IsSomeAnd (read_of format new m) (IsItsFiles m)
    turn before same None e h = absurd h
    turn before same (Some read) e h = subst (λ p. IsSomeAnd p (IsItsFiles m)) (sym e) (record {
      tables = h.tables ∙ sym same.tables;
      values = subst (λ v. C.AllZip (λ s values. IsSomeAnd s.targets (λ targets. C.length values ≡ C.length targets)) read.segments v) (sym same.values) h.values;
    })

pub code_kept : (format : Format) (old new : LoadingWorld) → KeepsCode format old new → C.IsOfFiles format old → C.IsOfFiles format new
code_kept format old new keeps good = record { code = bytes_kept _ old new keeps good.code; modules = modules_kept _ old new keeps good.modules }

-- modules that are the same
pub same_source : (m : Module) → SameSource m m
same_source m = record { file = refl; values = refl; slots = refl; tables = refl }

if_some : {P Q : List ℕ → Type 0} (p : Option (List ℕ)) → ((b : List ℕ) → P b → Q b) → IfSome p P → IfSome p Q
if_some None f h = tt
if_some (Some b) f h = f b h

-- bytes that are kept
pub as_it_was : (format : Format) (old : LoadingWorld) (new : Heap) (slot number : ℕ) (m : Module) → KeepsBytes old.handles.heap new slot
    → IfSome (bytes_at new slot) (λ b. (bytes_at old.handles.heap slot ≡ Some b) ⊎ (segment_bytes format old m number ≡ Some b))
as_it_was format old new slot number m = if_some _ (λ b e. inl e)

-- a world with another heap
pub with_code : (format : Format) (old : LoadingWorld) (heap : Heap) → ((slot handle number : ℕ) (m : Module) → IsSegmentOf old slot handle number m → is_code old slot ≡ true
    → IfSome (bytes_at heap slot) (λ b. (bytes_at old.handles.heap slot ≡ Some b) ⊎ (segment_bytes format old m number ≡ Some b))) → KeepsCode format old (C.with_heap old heap)
with_code format old heap bytes = record { files = refl; modules = λ handle m e. (m, e, same_source m); coded = λ q t. t; bytes = bytes }

-- what was filled has these bytes, and all else the bytes that it had, or none
one_bytes : (old : Heap) (slot : ℕ) (bytes : List ℕ) (new : Heap) → IsHeap old → Fills old slot bytes true new → (q : ℕ) → IfSome (bytes_at new q) (λ b. (bytes_at old q ≡ Some b) ⊎ ((q ≡ slot) × (b ≡ bytes)))
one_bytes old slot bytes new is f q = elim (C.cases_eq q slot) [
  | inl same ↦ subst (λ p. IfSome p (λ b. (bytes_at old q ≡ Some b) ⊎ ((q ≡ slot) × (b ≡ bytes)))) (sym (ap (bytes_at new) same ∙ ap C.bytes_in (filled_object old _ _ new f))) (inr (same, refl))
  | inr other ↦ if_some _ (λ b e. inl e) (kept_bytes old new q (filled_other old _ _ new f is q other))
]

-- all that was filled has its bytes, where these are read again
abbrev pub IsFilled : List Filling → ℕ → List ℕ → Type 0
IsFilled xs q b = (x : Filling) × C.Member x xs × (q ≡ x.slot) × (b ≡ x.bytes)

abbrev pub ReadsAgain : Answers → Type 0
ReadsAgain answers = (held read : List ℕ) → answers.again held read → read ≡ held

pub fills_bytes : (answers : Answers) → ReadsAgain answers → (old new : Heap) (xs : List Filling) (failure : Option C.Failure) → IsHeap old → C.InTurn (C.GivesFrom Fills answers) old xs failure new
    → (q : ℕ) → IfSome (bytes_at new q) (λ b. (bytes_at old q ≡ Some b) ⊎ IsFilled xs q b)
fills_bytes answers exact old new xs failure is f q = (any_do answers Has (λ h. if_some _ (λ b e. inl e) (same_bytes h h q refl)) then old new xs failure is
    (λ x m a b h read long again g. if_some (bytes_at b q) (λ c k. elim k [ inl e ↦ inl e | inr e ↦ inr (x, m, e.0, e.1 ∙ exact _ _ again) ]) (one_bytes a _ _ b h g q)) f).0
  where
    Has : Heap → Heap → Type 0
    Has old new = IfSome (bytes_at new q) (λ b. (bytes_at old q ≡ Some b) ⊎ IsFilled xs q b)

    then : (a b c : Heap) → Has a b → Has b c → Has a c
    then a b c x y = if_some (bytes_at c q) (λ d k. elim k [ inl e ↦ subst (λ p. IfSome p (λ d. (bytes_at a q ≡ Some d) ⊎ IsFilled xs q d)) e x | inr f ↦ inr f ]) y

-- what is fetched is the segment's image, where it is code
abbrev pub FetchesCode : Format → Answers → LoadingWorld → ℕ → Type 0
FetchesCode format answers old slot = (handle number : ℕ) (m : Module) (bytes : List ℕ) → IsSegmentOf old slot handle number m → is_code old slot ≡ true → answers.gives old slot bytes → segment_bytes format old m number ≡ Some bytes

pub fetched_code : {answers : Answers} {old : LoadingWorld} {slot : ℕ} {fault : Option C.FetchFault} {new : LoadingWorld} (format : Format) → IsHeap old.handles.heap → FetchesCode format answers old slot → C.FetchesFrom Fills answers old slot fault new → KeepsCode format old new
fetched_code {answers} {old} {slot} {fault} {new} format is fetches f = subst (KeepsCode _ old) (sym f.rest) (with_code _ old _ bytes)
  where
    bytes : (q handle number : ℕ) (m : Module) → IsSegmentOf old q handle number m → is_code old q ≡ true → IfSome (bytes_at new.handles.heap q) (λ b. (bytes_at old.handles.heap q ≡ Some b) ⊎ (segment_bytes format old m number ≡ Some b))
    bytes q handle number m s coded = elim (fetch_outcome f).1 [
      | inl e ↦ as_it_was format old new.handles.heap q number m (same_bytes old.handles.heap new.handles.heap q (ap (λ w. bytes_at w.handles.heap q) e))
      | inr (read, sized, given, g) ↦ if_some (bytes_at new.handles.heap q) (λ b k. elim k [
        | inl e ↦ inl e
        | inr e ↦ inr (fetches handle number m read (subst (λ k. IsSegmentOf old k handle number m) e.0 s) (subst (λ k. is_code old k ≡ true) e.0 coded) given ∙ ap Some (sym e.1))
      ]) (one_bytes _ _ _ _ is g q)
    ]
