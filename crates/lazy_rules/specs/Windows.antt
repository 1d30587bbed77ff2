use Rattle.std.specs.Prelude.{ℕ, ◌+◌, max, List, [], ◌∷◌, Bool, ◌&&◌, ◌||◌, ◌==◌, nat_le, if◌then◌else◌, slice_index_or, slice_set}
use Rattle.rec_id.specs.Identity.{Identity, has_id, same_id}
use Rattle.rec_id.specs.Marks.{is_seen, mark, no_marks, span_of}
use Rattle.rec_id.specs.declared.marks.Marks.{Marks}
use Rattle.view_config.specs.Limits.{window_of}
use Rattle.view_config.specs.declared.edition.Edition.{Edition}

-- the marks of a client in a window, which has the marks of each; none where it lacks the client
abbrev pub marks_of : List Marks → ℕ → Marks
marks_of window client = slice_index_or window client (no_marks 0)

-- the window has seen the identity
abbrev pub has_seen : List Marks → Identity → Bool
has_seen window id = is_seen (marks_of window id.client) id.number

-- the window with one identity more
abbrev pub marked_in : List Marks → Identity → List Marks
marked_in window id = slice_set window id.client (mark (marks_of window id.client) id.number)

-- the window with these identities more, one after the other
abbrev pub marked_all : List Marks → List Identity → List Marks
marked_all window [] = window
marked_all window (id ∷ ids) = marked_all (marked_in window id) ids

-- the greatest of the client's numbers among these, 0 where it has none
abbrev pub top_of : List Identity → ℕ → ℕ
top_of [] client = 0
top_of (id ∷ ids) client = if id.client == client then max id.number (top_of ids client) else top_of ids client

-- what is seen once these were marked: they, and what is a whole window below the greatest of its client
abbrev pub is_known_among : Edition → List Identity → Identity → Bool
is_known_among edition ids id = has_id ids id || nat_le (id.number + window_of edition) (top_of ids id.client)

-- what is seen once this identity is marked in a window that has these marks of its client: it, what was seen
-- before, and what is a whole window below the greatest mark then
abbrev pub is_seen_with : List Marks → Marks → Identity → Identity → Bool
is_seen_with window marks id other =
    same_id id other || has_seen window other
    || (other.client == id.client && nat_le (other.number + span_of marks) (max marks.top id.number))
