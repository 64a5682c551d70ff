mod FirstGroups
