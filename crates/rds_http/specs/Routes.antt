-- What a request asks for, by its method and its path.
use Rattle.std.specs.Prelude.{ℕ, ◌+◌, Bool, true, false, ◌==◌, ◌&&◌, ◌||◌, not, nat_lt, bytes_eq, codes, List, [], ◌∷◌, length}
use Rattle.std.specs.Prelude.{take, drop, Option, None, Some, if◌then◌else◌}
use Rattle.std.specs.List.{prefix_len}
use Rattle.rds_http.specs.declared.routes.Look.{Look}
use Rattle.rds_http.specs.declared.routes.Look.TheVariants.{Page, View, Here, Value, Conflicts, Status, Metrics, Snapshot}
use Rattle.rds_http.specs.declared.routes.Look.TheVariants as Shown
use Rattle.rds_http.specs.declared.routes.Post.TheVariants.{Edits, Grow, Answer, Take, Push, Pull, Login}
use Rattle.rds_http.specs.declared.routes.Change.TheVariants as Changed
use Rattle.rds_http.specs.declared.routes.Resource.{Resource}
use Rattle.rds_http.specs.declared.routes.Resource.TheVariants as Of
use Rattle.rds_http.specs.declared.routes.Asked.{Asked}
use Rattle.rds_http.specs.declared.routes.Asked.TheVariants as Ask

-- the byte is no slash
abbrev pub is_in_name : ℕ → Bool
is_in_name b = not (b == 47)

-- what of this name is shown of a place
abbrev pub look_named : List ℕ → Option Look
look_named name =
    if bytes_eq name (codes "doc") then Some View
    else (if bytes_eq name (codes "here") then Some Here
    else (if bytes_eq name (codes "value") then Some Value
    else (if bytes_eq name (codes "conflicts") then Some Conflicts
    else None)))

-- what has this name, and takes what is posted
abbrev pub posted_named : List ℕ → Resource
posted_named name =
    if bytes_eq name (codes "edits") then Of.Post Edits
    else (if bytes_eq name (codes "grow") then Of.Post Grow
    else (if bytes_eq name (codes "answer") then Of.Post Answer
    else (if bytes_eq name (codes "take") then Of.Post Take
    else (if bytes_eq name (codes "push") then Of.Post Push
    else (if bytes_eq name (codes "pull") then Of.Post Pull
    else (if bytes_eq name (codes "login") then Of.Post Login
    else Of.Unknown))))))

-- what has this name, and no places
abbrev pub lone_named : List ℕ → Resource
lone_named name =
    if bytes_eq name (codes "") then Of.Look Page
    else (if bytes_eq name (codes "status") then Of.Look Status
    else (if bytes_eq name (codes "metrics") then Of.Look Metrics
    else (if bytes_eq name (codes "ask") then Of.Look Shown.Ask
    else (if bytes_eq name (codes "snapshot") then Of.Look Snapshot
    else (if bytes_eq name (codes "live") then Of.Live
    else posted_named name)))))

-- what has this name, and takes what is posted for a place
abbrev pub placed_named : List ℕ → Resource
placed_named name = if bytes_eq name (codes "edits") then Of.EditsAt else Of.Unknown

abbrev pub resource_with : Option Look → Bool → List ℕ → Resource
resource_with (Some look) has_place name = Of.Look look
resource_with None true name = placed_named name
resource_with None false name = lone_named name

-- the resource of this name, with a slash behind it or none
abbrev pub resource_named : List ℕ → Bool → Resource
resource_named name has_place = resource_with (look_named name) has_place name

-- what a path names, by its first part
abbrev pub resource_of : List ℕ → Resource
resource_of [] = Of.Unknown
resource_of (b ∷ rest) =
    let len = prefix_len is_in_name rest in
    if b == 47 then resource_named (take len rest) (nat_lt len (length rest)) else Of.Unknown

-- the place that a path names, behind its first part
abbrev pub place_of : List ℕ → List ℕ
place_of [] = []
place_of (b ∷ rest) = drop (prefix_len is_in_name rest + 1) rest

-- the method only reads what it names
abbrev pub is_reading : List ℕ → Bool
is_reading method = bytes_eq method (codes "GET") || bytes_eq method (codes "HEAD")

-- what is shown that may be put too
abbrev pub is_put : Look → Bool
is_put Value = true
is_put _ = false

-- what is asked for by a method of a resource
abbrev pub asked_with : List ℕ → Resource → Asked
asked_with method (Of.Look look) =
    if is_reading method then Ask.Look look
    else (if is_put look && bytes_eq method (codes "PUT") then Ask.Change Changed.Set
    else Ask.NotAllowed (Of.Look look))
asked_with method (Of.Post post) =
    if bytes_eq method (codes "POST") then Ask.Post post else Ask.NotAllowed (Of.Post post)
asked_with method Of.EditsAt =
    if bytes_eq method (codes "POST") then Ask.Change Changed.Edits else Ask.NotAllowed Of.EditsAt
asked_with method Of.Live = if bytes_eq method (codes "GET") then Ask.Live else Ask.NotAllowed Of.Live
asked_with method Of.Unknown = Ask.Unknown

-- what a request of this method and this path asks for
abbrev pub asked_of : List ℕ → List ℕ → Asked
asked_of method path = asked_with method (resource_of path)

-- to edit the document, or to put a name in its roster
abbrev pub is_own_change : Asked → Bool
is_own_change (Ask.Post Edits) = true
is_own_change (Ask.Post Grow) = true
is_own_change (Ask.Change change) = true
is_own_change _ = false
