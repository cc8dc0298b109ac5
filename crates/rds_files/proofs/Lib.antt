mod Unchanged
