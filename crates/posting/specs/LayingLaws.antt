-- Words copied to a part of a buffer that is lent from a place on are laid there. Assumes nothing.
use Rattle.std.specs.Prelude.{ℕ, ◌-◌, ◌≤◌, ◌≡◌, List, [], ◌++◌, length, take, drop}
use Rattle.std.proofs.Common.{sym, ap, ◌∙◌, append-nil, le_of_eq, length-drop, drop_of_length-le, length-take-le, take_all}
use borrow.Rule.Slice.PartMut.{put_mid}
use Rattle.words.specs.Laying.{laid}
pub use Rattle.words.specs.Laying.{laid_none, laid_one, laid_more, laid-long, three-laid, zero_more, zero-end}
use Rattle.copying.specs.Copied.{copied}

pub copied-laid : (at n : ℕ) (words buffer part : List ℕ) → n ≤ length words → part ≡ copied 0 n words (take (length buffer - at) (drop at buffer)) → put_mid at (length buffer - at) buffer part ≡ laid at (take n words) buffer
copied-laid at n words buffer part l e =
    let whole : take (length buffer - at) (drop at buffer) ≡ drop at buffer = take_all (length buffer - at) (drop at buffer) (le_of_eq (length-drop at buffer)) in
    let none : drop (length buffer - at) (drop at buffer) ≡ [] = drop_of_length-le (drop at buffer) (le_of_eq (length-drop at buffer)) in
    let long : length (take n words) ≡ n = length-take-le n words l in
    ap (λ (z : List ℕ). take at buffer ++ (part ++ z)) none
    ∙ ap (λ (z : List ℕ). take at buffer ++ z) (append-nil part ∙ e)
    ∙ (λ i. take at buffer ++ (take n words ++ drop (sym long i) (whole i)))
