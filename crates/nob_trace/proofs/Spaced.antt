-- Frames that were read so far, and those that are left.
use Rattle.std.proofs.Common.{◌≡◌, ℕ, List, [], ◌∷◌, ◌++◌, refl, sym, ap, ◌∙◌, append_assoc, codes, arith}
use Rattle.std.specs.List.{AllByRecursion}
use Rattle.std.proofs.lemmas.List.{append-nil}
use Rattle.nob_frame.specs.declared.frame.Frame.{Frame}
use Rattle.nob_frame.specs.declared.version.Version.{Version}
use Rattle.nob_model_text.specs.Fronts.{Stops}
use Rattle.nob_model_text.specs.declared.unread.Unread.{Unread}
use Rattle.nob_model_text.specs.declared.unread.Unread.TheVariants.{OutOfMemory}
use Rattle.nob_trace.specs.Frames.{IsFramed, frame_text, frames_text, spaced_text}
use Rattle.nob_trace.proofs.FrameBytes.{begins}

-- the text is what was read and the rest
abbrev pub FoundSoFar : Version → List ℕ → List Frame → List ℕ → Type 0
FoundSoFar version text done left = AllByRecursion (IsFramed version) done × (text ≡ spaced_text version done ++ left)

-- whatever the text spells is what was read and something that the rest spells
abbrev pub OnlySoFar : Version → List ℕ → List Frame → List ℕ → Type 0
OnlySoFar version text done left = (frames : List Frame) → AllByRecursion (IsFramed version) frames → text ≡ spaced_text version frames → (others : List Frame) × (frames ≡ done ++ others) × AllByRecursion (IsFramed version) others × (left ≡ spaced_text version others)

pub stops : (version : Version) (frames : List Frame) → Stops (spaced_text version frames)
stops version [] = tt
stops version (frame ∷ frames) = refl

all_push : (P : Frame → Type 0) (done : List Frame) (f : Frame) → AllByRecursion P done → P f → AllByRecursion P (done ++ f ∷ [])
all_push P [] f all one = (one, tt)
all_push P (x ∷ done) f all one = (all.0, all_push P done f all.1 one)

spaced_push : (version : Version) (done : List Frame) (f : Frame) (after : List ℕ) → spaced_text version done ++ 32 ∷ (frame_text version f ++ after) ≡ spaced_text version (done ++ f ∷ []) ++ after
spaced_push version [] f after = ap (λ (bs : List ℕ). 32 ∷ (bs ++ after)) (sym (append-nil (frame_text version f)))
spaced_push version (x ∷ done) f after =
    ap (λ (bs : List ℕ). 32 ∷ bs) (append_assoc (frame_text version x) (spaced_text version done) (32 ∷ (frame_text version f ++ after)) ∙ ap (λ (bs : List ℕ). frame_text version x ++ bs) (spaced_push version done f after) ∙ sym (append_assoc (frame_text version x) (spaced_text version (done ++ f ∷ [])) after))

pub found_next : (version : Version) (text left next after : List ℕ) (done : List Frame) (f : Frame) → left ≡ 32 ∷ next → IsFramed version f × (next ≡ frame_text version f ++ after) → FoundSoFar version text done left → FoundSoFar version text (done ++ f ∷ []) after
found_next version text left next after done f space one so_far = (
  all_push (IsFramed version) done f so_far.0 one.0,
  so_far.1 ∙ ap (λ (bs : List ℕ). spaced_text version done ++ bs) (space ∙ ap (λ (bs : List ℕ). 32 ∷ bs) one.1) ∙ spaced_push version done f after,
)

-- how a frame is read
abbrev pub IsRead : Version → List ℕ → Frame → List ℕ → Type 0
IsRead version text f left = (frame : Frame) (rest : List ℕ) → IsFramed version frame → Stops rest → text ≡ frame_text version frame ++ rest → (f ≡ frame) × (left ≡ rest)

head_is : (a b : ℕ) (xs ys : List ℕ) → a ∷ xs ≡ b ∷ ys → a ≡ b
head_is a b xs ys e = cc

tail_is : (a b : ℕ) (xs ys : List ℕ) → a ∷ xs ≡ b ∷ ys → xs ≡ ys
tail_is a b xs ys e = cc

nothing : (b : ℕ) (ys : List ℕ) → [] ≡ b ∷ ys → ⊥
nothing b ys e = cc

others_next : (version : Version) (frames done others : List Frame) (left next after : List ℕ) (f : Frame) → left ≡ 32 ∷ next → IsRead version next f after → frames ≡ done ++ others → AllByRecursion (IsFramed version) others → left ≡ spaced_text version others
    → (more : List Frame) × (frames ≡ (done ++ f ∷ []) ++ more) × AllByRecursion (IsFramed version) more × (after ≡ spaced_text version more)
others_next version frames done [] left next after f space read all framed is = absurd (nothing 32 next (sym is ∙ space))
others_next version frames done (u ∷ more) left next after f space read all framed is =
    let r = read u (spaced_text version more) framed.0 (stops version more) (tail_is 32 32 next _ (sym space ∙ is)) in
    (more, all ∙ ap (λ (g : Frame). done ++ g ∷ more) (sym r.0) ∙ sym (append_assoc done (f ∷ []) more), framed.1, r.1)

pub only_next : (version : Version) (text left next after : List ℕ) (done : List Frame) (f : Frame) → left ≡ 32 ∷ next → IsRead version next f after → OnlySoFar version text done left → OnlySoFar version text (done ++ f ∷ []) after
only_next version text left next after done f space read so_far frames framed spelt =
    let r = so_far frames framed spelt in
    others_next version frames done r.0 left next after f space read r.1 r.2 r.3

after_word : (xs ys : List ℕ) → codes "frames" ++ xs ≡ codes "frames" ++ ys → xs ≡ ys
after_word xs ys e = cc

no_more : (version : Version) (others : List Frame) → [] ≡ spaced_text version others → others ≡ []
no_more version [] is = refl
no_more version (u ∷ others) is = absurd (nothing _ _ is)

pub only_end : (version : Version) (text left : List ℕ) (done : List Frame) → left ≡ [] → OnlySoFar version text done left → (frames : List Frame) → AllByRecursion (IsFramed version) frames → text ≡ spaced_text version frames → done ≡ frames
only_end version text left done empty so_far frames framed spelt =
    let r = so_far frames framed spelt in
    sym (r.1 ∙ ap (λ (us : List Frame). done ++ us) (no_more version r.0 (sym empty ∙ r.3)) ∙ append-nil done)

-- where nothing is read, memory ran out
pub no_space : (version : Version) (others : List Frame) (left : List ℕ) (e : Unread) → (left ≡ [] → ⊥) → left ≡ spaced_text version others → ((rest : List ℕ) → left ≡ 32 ∷ rest → e ≡ OutOfMemory) → e ≡ OutOfMemory
no_space version [] left e some is unread = absurd (some is)
no_space version (u ∷ others) left e some is unread = unread _ is

pub no_frame : (version : Version) (others : List Frame) (left next : List ℕ) (e : Unread) → left ≡ 32 ∷ next → AllByRecursion (IsFramed version) others → left ≡ spaced_text version others
    → ((frame : Frame) (rest : List ℕ) → IsFramed version frame → Stops rest → next ≡ frame_text version frame ++ rest → e ≡ OutOfMemory) → e ≡ OutOfMemory
no_frame version [] left next e space framed is unread = absurd (nothing 32 next (sym is ∙ space))
no_frame version (u ∷ others) left next e space framed is unread = unread u (spaced_text version others) framed.0 (stops version others) (tail_is 32 32 next _ (sym space ∙ is))

letters_differ : (bs rest : List ℕ) → bs ≡ 52 ∷ rest → (after : List ℕ) → 32 ∷ 110 ∷ 111 ∷ 110 ∷ 101 ∷ [] ≡ 32 ∷ (bs ++ after) → ⊥
letters_differ bs rest begin after is =
    let same : 110 ∷ 111 ∷ 110 ∷ 101 ∷ [] ≡ 52 ∷ (rest ++ after) = tail_is 32 32 _ _ is ∙ ap (λ (cs : List ℕ). cs ++ after) begin in
    let head = head_is 110 52 _ _ same in omega (arith, head)

-- frames don't begin with the word that stands for none
pub not_none : (version : Version) (frame : Frame) (frames : List Frame) → 32 ∷ 110 ∷ 111 ∷ 110 ∷ 101 ∷ [] ≡ spaced_text version (frame ∷ frames) → ⊥
not_none version frame frames is = let b = begins version frame in letters_differ (frame_text version frame) b.0 b.1 (spaced_text version frames) is

-- what spells frames and is the text of none is none
pub none_alone : (version : Version) (text : List ℕ) (frames : List Frame) → text ≡ codes "frames none" → text ≡ frames_text version frames → [] ≡ frames
none_alone version text [] is spelt = refl
none_alone version text (frame ∷ frames) is spelt = absurd (not_none version frame frames (after_word _ _ (sym is ∙ spelt)))

-- frames whose text isn't that of none are some, each behind a space
pub some_alone : (version : Version) (text : List ℕ) (frames : List Frame) → (text ≡ codes "frames none" → ⊥) → text ≡ frames_text version frames → (text ≡ codes "frames" ++ spaced_text version frames) × (frames ≡ [] → ⊥)
some_alone version text [] isnt spelt = absurd (isnt spelt)
some_alone version text (frame ∷ frames) isnt spelt = (spelt, λ e. absurd cc)
